use Rattle.std.proofs.Common.{◌≡◌, ◌≤◌, IfSome, false, true}
use Rattle.csv.specs.Reading.{Ready, default_config, is_flexible, reader_config, reader_trim}
use Rattle.csv.specs.declared.reader.Trim.TheVariants as trim
use Rattle.dh_agency.specs.Agency.{IsClean, LeavesItsTables, WasClean, stand}
use Rattle.dh_lines.specs.Reading.{left_of}
use Rattle.dh_lines.specs.Batch.{WasAnswered}
use Rattle.dh_lines.proofs.Following.{Follows}
use Rattle.dh_lines.proofs.whole_batch.batch.Given as goal

abbrev pub invariant-loop-n : goal.invariant-loop-n
invariant-loop-n g l = record {
  plain : reader_trim l.records ≡ trim.None;
  ready : Ready l.records;
  config : reader_config l.records ≡ default_config;
  flexible : is_flexible l.records ≡ true;
  few : l.refused ≤ l.n;
  was_clean : WasClean g.S.Store l.initial.agency l.agency;
  unmoved : l.initial.agency.is_stopped ≡ true → l.agency ≡ l.initial.agency;
  stopped : l.agency.is_stopped ≡ l.initial.agency.is_stopped;
  left : IsClean g.S.Store l.agency → LeavesItsTables g.S.Store l.initial.agency → l.agency.is_stopped ≡ false → LeavesItsTables g.S.Store l.agency;
  answered : IsClean g.S.Store l.agency → WasAnswered g.S.Store l.initial.agency l.agency;
  follows : IsClean g.S.Store l.agency → IfSome (g.R.Read.remaining l.fn.reader)
      (Follows (λ w. left_of w.has_ended (g.R.Read.remaining w.inner.now)) l.records (g.W.Write.contents l.initial.writer) (g.W.Write.contents l.writer)
      (stand g.S.Store l.initial.agency) (stand g.S.Store l.agency) l.n l.refused);
}
