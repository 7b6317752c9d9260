use Rattle.std.proofs.Common.{◌≡◌, length, false}
use Rattle.dh_lives.proofs.work.tell_all.Given as goal

-- each command so far was answered
abbrev pub invariant-loop-command : goal.invariant-loop-command
invariant-loop-command g l = record {
  goes_on : l.agency.is_stopped ≡ false;
  answered : length l.replies.items ≡ l.command-index;
}
