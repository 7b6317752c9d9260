use Rattle.std.proofs.Common.{◌≡◌, ◌≢◌, Ok, Err, refl, rules}
use Rattle.std.specs.IoError.{error_kind}
use Rattle.std.specs.declared.io.ErrorKind.TheVariants.{Interrupted}
use Rattle.dh_reading.proofs.ReadLemmas.{gave, interrupted_more}
use Rattle.dh_reading.proofs.again.read_again.Goals as goal

pub returns-in-Ok-clause-made : goal.returns-in-Ok-clause-made
returns-in-Ok-clause-made g c =
    gave (λ it. it.error) (g.S.Source.reads c.args.source.now) _ _ _ (Ok c.in-Ok.count) _ c.loop-turn.invariant.interrupted c.in-Ok.ensures.made
    (λ never. never) refl

pub returns-then-ne-clause-made : goal.returns-then-ne-clause-made
returns-then-ne-clause-made g c =
    let kind : error_kind c.in-Err.error ≢ Interrupted = search rules in
    gave (λ it. it.error) (g.S.Source.reads c.args.source.now) _ _ _ (Err c.in-Err.error) _ c.loop-turn.invariant.interrupted c.in-Err.ensures.made
    kind refl

pub loop-turn-preserved : goal.loop-turn-preserved
loop-turn-preserved g c =
    let kind : error_kind c.in-Err.error ≡ Interrupted = search rules in
    record {
      room = search rules;
      kept = search rules;
      interrupted = interrupted_more (g.S.Source.reads c.args.source.now) _ _ _ c.in-Err.error c.loop-turn.invariant.interrupted c.in-Err.ensures.made kind;
    }
