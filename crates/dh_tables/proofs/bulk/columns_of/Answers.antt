use Rattle.std.proofs.Common.{◌≡◌, ◌∙◌, ◌<◌, ◌+◌, ◌++◌, ℕ, List, [], ◌∷◌, ap, sym, subst, length, flat_map, get_or, take, arith, inl, inr, true}
use Rattle.std.specs.Prelude.{Vec}
use Rattle.std.specs.declared.alloc.Global.{Global}
use Rattle.std.proofs.lemmas.Bool.{cases_lt}
use Rattle.std.proofs.lemmas.List.{flat_map_more, get_or-map, get_or_default, length-map, map-append, take_more}
use Rattle.sqlite_value.specs.declared.value.ValueRef.{ValueRef}
use Rattle.sqlite_value.specs.Value.{owned}
use Rattle.sqlite_value.specs.Order.{Row}
use Rattle.sqlite.specs.Values.{bound, bound_value}
use Rattle.dh_tables.proofs.bulk.columns_of.Goals as goal

pub to_row-requires : goal.to_row-requires
to_row-requires g c =
    let at = c.loop-at.at in
    let rows = c.args.rows.now in
    let days = c.args.days.now in
    let row = c.index-rows-at.result in
    let day = c.index-days-at.result in
    let text : Vec ℕ Global → List ℕ = λ it. it.items in
    let own = g.R.Record.day_column in
    let low : at < length rows = omega arith in
    let as_many : length days ≡ length rows = sym (length-map days text) ∙ ap length c.requires ∙ length-map rows own in
    let there : at < length days = omega (arith, low, as_many) in
    c.deref.ensures.value ∙ ap text c.index-days-at.is ∙ sym (get_or-map text days at day [] there)
    ∙ ap (λ (texts : List (List ℕ)). get_or texts at []) c.requires ∙ get_or-map own rows at row [] low ∙ ap own (sym c.index-rows-at.is)

pub loop-at-preserved : goal.loop-at-preserved
loop-at-preserved g c =
    let at = c.loop-at.at in
    let rows = c.args.rows.now in
    let own = c.index-rows-at.result in
    let row = g.R.Record.row in
    let low : at < length rows = omega arith in
    let more : take (at + 1) rows ≡ take at rows ++ own ∷ [] = take_more rows at own low ∙ ap (λ it. take at rows ++ it ∷ []) (sym c.index-rows-at.is) in
    let one = c.in_ok-columns.ensures in
    record {
      columns = ap bound c.in_ok-append.ensures.items
          ∙ map-append (λ (v : ValueRef). bound_value (owned v)) c.loop-at.values.items c.in_ok-columns.columns.items
          ∙ ap (λ (before : Row). before ++ bound c.in_ok-columns.columns.items) c.loop-at.invariant.columns
          ∙ ap (λ (columns : Row). flat_map row (take at rows) ++ columns) one.columns
          ∙ flat_map_more row [] (take at rows) own
          ∙ ap (flat_map row) (sym more);
      grammar = λ keeps k d below. elim (cases_lt k at) [
        | inl before ↦ c.loop-at.invariant.grammar keeps k d before
        | inr after ↦
            let here : k ≡ at = omega (arith, after, below) in
            let is : own ≡ get_or rows k d = c.index-rows-at.is ∙ get_or_default rows at own d low ∙ ap (λ n. get_or rows n d) (sym here) in
            let kept = subst g.R.Record.can_keep (sym c.index-rows-at.is) (keeps at own low) in
            subst (λ it. g.R.Record.is_row (row it) ≡ true) is (one.grammar kept)
      ];
    }
