use Rattle.dh_lives.proofs.Through.{answered_attempts_migrate, days_are_migrated, files_are_migrated_later, recovered_files_are_migrated}
use Rattle.dh_lives.proofs.histories.answered_attempts_migrate.Goals as goal

pub returns-clause-any : goal.returns-clause-any
returns-clause-any g c = answered_attempts_migrate g.S.Store

pub returns-clause-day : goal.returns-clause-day
returns-clause-day g c = days_are_migrated g.S.Store

pub returns-clause-recovered : goal.returns-clause-recovered
returns-clause-recovered g c = recovered_files_are_migrated g.S.Store

pub returns-clause-later : goal.returns-clause-later
returns-clause-later g c = files_are_migrated_later g.S.Store
