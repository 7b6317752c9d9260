use Rattle.std.proofs.Common.{◌≡◌, ◌*◌, ◌≤◌, take}
use Rattle.std.specs.List.{sum_by}
use Rattle.dh_types.specs.declared.run.Part.{Part}
use Rattle.dh_model.specs.Runs.{batch_size, batches_for}
use Rattle.dh_leases.proofs.batch_counts.batches.Given as goal

abbrev pub invariant-loop-part : goal.invariant-loop-part
invariant-loop-part l = record {
  all : l.all ≡ sum_by (λ (part : Part). batches_for batch_size part.count) (take l.part-index l.part-items);
  small : l.all ≤ 4294967296 * l.part-index;
}
