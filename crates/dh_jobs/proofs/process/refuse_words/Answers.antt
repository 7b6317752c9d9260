use Rattle.std.proofs.Common.{◌≡◌, inl, rules}
use Rattle.std.specs.IoError.{error_kind}
use Rattle.std.specs.declared.io.ErrorKind.TheVariants.{InvalidData}
use Rattle.dh_jobs.proofs.process.refuse_words.Goals as goal

pub returns-then-eq : goal.returns-then-eq
returns-then-eq g c =
    let is : error_kind c.args.error.now ≡ InvalidData = search rules in
    inl (is, (c.put.result, c.refused.ensures, c.put.ensures))
