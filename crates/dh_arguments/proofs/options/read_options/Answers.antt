use Rattle.std.proofs.Common.{codes, ◌∙◌}
use Rattle.clap.proofs.WalkLemmas.{first_value-rows}
use Rattle.clap.specs.Words.{found_of, rows_of}
use Rattle.dh_arguments.proofs.Values.{none_bad}
use Rattle.dh_arguments.proofs.options.read_options.Goals as goal

pub returns : goal.returns
returns c =
    let first = c.in_ok-read_value.ensures in
    let key = c.in_ok-read_value-2.ensures in
    let month = c.in_ok-read_value-3.ensures in
    let batches = c.in_ok-read_value-4.ensures in
    let port = c.in_ok-read_value-5.ensures in
    let count = c.in_ok-read_value-6.ensures in (
      none_bad (rows_of (found_of c.args.values.now)) (first.0, key.0, month.0, batches.0, port.0, count.0),
      record {
        file = c.get_str.ensures ∙ first_value-rows (found_of c.args.values.now) (codes "file");
        first = first.1;
        key = key.1;
        month = month.1;
        batches = batches.1;
        port = port.1;
        count = count.1;
      },
    )
