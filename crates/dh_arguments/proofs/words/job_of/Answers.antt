use Rattle.std.proofs.Common.{codes, ◌∙◌, ap, option_map, sym}
use Rattle.clap.specs.Words.{found_of, rows_of}
use Rattle.dh_values.specs.Counts.{batch_count_of}
use Rattle.dh_days.specs.Months.{month_of}
use Rattle.dh_arguments.proofs.Answers.{init_has, migrate_has, no_other, recover_has, report_has, run_has, serve_has}
use Rattle.dh_arguments.proofs.Values.{all_read, text_there, value_there}
use Rattle.dh_arguments.proofs.Outcomes.{reported}
use Rattle.dh_arguments.specs.Options.{key_of, port_of}
use Rattle.dh_arguments.proofs.words.job_of.Goals as goal

pub unwrap-requires : goal.unwrap-requires
unwrap-requires c =
    let rows = rows_of (found_of c.args.values.now) in
    text_there (codes "file") rows _ c.in-Ok.ensures.1.file (init_has c.args.name.now rows c.requires c.in-init.is).0

pub unwrap-requires-in-init : goal.unwrap-requires-in-init
unwrap-requires-in-init c =
    let rows = rows_of (found_of c.args.values.now) in
    value_there month_of (codes "first") rows _ c.in-Ok.ensures.1.first (all_read rows c.in-Ok.ensures.0).0
    (init_has c.args.name.now rows c.requires c.in-init.is).1

pub unwrap-requires-in-run : goal.unwrap-requires-in-run
unwrap-requires-in-run c =
    let rows = rows_of (found_of c.args.values.now) in
    text_there (codes "file") rows _ c.in-Ok.ensures.1.file (run_has c.args.name.now rows c.requires c.in-run.is).0

pub unwrap-requires-in-run-2 : goal.unwrap-requires-in-run-2
unwrap-requires-in-run-2 c =
    let rows = rows_of (found_of c.args.values.now) in
    value_there key_of (codes "key") rows _ c.in-Ok.ensures.1.key (all_read rows c.in-Ok.ensures.0).1 (run_has c.args.name.now rows c.requires c.in-run.is).1

pub unwrap-requires-in-run-3 : goal.unwrap-requires-in-run-3
unwrap-requires-in-run-3 c =
    let rows = rows_of (found_of c.args.values.now) in
    value_there month_of (codes "month") rows _ c.in-Ok.ensures.1.month (all_read rows c.in-Ok.ensures.0).2
    (run_has c.args.name.now rows c.requires c.in-run.is).2

pub unwrap-requires-in-recover : goal.unwrap-requires-in-recover
unwrap-requires-in-recover c =
    let rows = rows_of (found_of c.args.values.now) in
    text_there (codes "file") rows _ c.in-Ok.ensures.1.file (recover_has c.args.name.now rows c.requires c.in-recover.is)

pub unwrap-requires-in-migrate : goal.unwrap-requires-in-migrate
unwrap-requires-in-migrate c =
    let rows = rows_of (found_of c.args.values.now) in
    text_there (codes "file") rows _ c.in-Ok.ensures.1.file (migrate_has c.args.name.now rows c.requires c.in-migrate.is)

pub unwrap-requires-in-report : goal.unwrap-requires-in-report
unwrap-requires-in-report c =
    let rows = rows_of (found_of c.args.values.now) in
    text_there (codes "file") rows _ c.in-Ok.ensures.1.file (report_has c.args.name.now rows c.requires c.in-report.is).0

pub report-requires : goal.report-requires
report-requires c = (report_has c.args.name.now (rows_of (found_of c.args.values.now)) c.requires c.in-report.is).1

pub unwrap-requires-in-serve : goal.unwrap-requires-in-serve
unwrap-requires-in-serve c =
    let rows = rows_of (found_of c.args.values.now) in
    text_there (codes "file") rows _ c.in-Ok.ensures.1.file (serve_has c.args.name.now rows c.requires c.in-serve.is).0

pub unwrap-requires-in-serve-2 : goal.unwrap-requires-in-serve-2
unwrap-requires-in-serve-2 c =
    let rows = rows_of (found_of c.args.values.now) in
    value_there port_of (codes "port") rows _ c.in-Ok.ensures.1.port (all_read rows c.in-Ok.ensures.0).4
    (serve_has c.args.name.now rows c.requires c.in-serve.is).1

pub unwrap-requires-in-serve-3 : goal.unwrap-requires-in-serve-3
unwrap-requires-in-serve-3 c =
    let rows = rows_of (found_of c.args.values.now) in
    value_there batch_count_of (codes "count") rows _ c.in-Ok.ensures.1.count (all_read rows c.in-Ok.ensures.0).5
    (serve_has c.args.name.now rows c.requires c.in-serve.is).2

pub unreachable-requires : goal.unreachable-requires
unreachable-requires c =
    let no = c.in_default in
    no_other c.args.name.now (rows_of (found_of c.args.values.now)) c.requires no.not-init no.not-batch no.not-run no.not-recover no.not-migrate
    no.not-report no.not-serve

pub returns-in-report : goal.returns-in-report
returns-in-report c =
    let file = sym c.in-Ok.ensures.1.file ∙ ap (option_map (λ text. text.now)) c.unwrap-in-report.ensures in
    reported _ _ (rows_of (found_of c.args.values.now)) c.in-report.is c.in-Ok.ensures.0 file c.report.result c.report.ensures
