use Rattle.std.proofs.Common.{◌≡◌, ◌∙◌, ap, sym, subst, List, None, arith}
use Rattle.std.proofs.lemmas.Result.{IfOk-weaker}
use Rattle.std.specs.declared.cmp.Ordering.{Ordering}
use Rattle.std.specs.FinMap.{FinMap, get, get-empty}
use Rattle.sqlite_value.specs.Order.{Row}
use Rattle.sqlite_trees.specs.Tree.{Trees}
use Rattle.sqlite.specs.Effect.{Database}
use Rattle.sqlite.specs.State.{HasCleanDisk}
use Rattle.sqlite.specs.Held.{state}
use Rattle.dh_types.specs.declared.version.Version.{Version}
use Rattle.dh_types.specs.declared.version.Version.TheVariants.{First, Second}
use Rattle.dh_ddl.specs.Versions.{HasSince}
use Rattle.dh_model.specs.Kinds.{IsSince}
use Rattle.dh_sql.specs.Shape.{IsKept, rows_in, rows_of}
use Rattle.dh_sql.proofs.Found.{keyed_rows}
use Rattle.dh_tables.specs.Calls.{AreAsked}
use Rattle.dh_tables.proofs.OneRecord.{found_ok}
use Rattle.dh_schema.specs.Tables.{rows_since, version_of_tables}
use Rattle.dh_schema.proofs.Crashing.{survives_both}
use Rattle.dh_schema.proofs.EachKind.{all_since}
use Rattle.dh_schema.proofs.OfKind.{is_kept}
use Rattle.dh_schema.proofs.ReadTables.{version_given}
use Rattle.dh_schema.proofs.Versions.{has_since}
use Rattle.dh_tables.proofs.OfKind.{ties, total}
use Rattle.dh_schema.proofs.by_key.find.Goals as goal

-- tables of an earlier version have no row
none_of : {K X : Type 0} {R : K → K → Ordering} (came version : Version) (rows : FinMap R X) (key : K) → came ≡ Second → version ≡ First
    → None ≡ get (rows_since came version rows) key
none_of {X = X} {R = R} came version rows key later first =
    sym (get-empty R key) ∙ (λ i. get (rows_since (sym later i) (sym first i) rows) key)

pub rows_asked-requires-clause-reading : goal.rows_asked-requires-clause-reading
rows_asked-requires-clause-reading g c clean =
    let old = state g.S.Store c.args.conn.now in
    let since = subst (λ (v : Version). IsSince v c.in_ok-version.version) c.came_with.ensures (c.is_since.ensures.yes c.if-not-is_since.false) in
    let schema = ap (λ (d : Database). d.schema) (c.in_ok-version.ensures.same clean).0.now_is in
    subst (HasSince g.R.Tabled.since) (sym schema) (has_since g.R.Tabled.since c.in_ok-version.version old.now.schema c.in_ok-version.ensures.found since)

pub rows_asked-requires-clause-kept : goal.rows_asked-requires-clause-kept
rows_asked-requires-clause-kept g c clean =
    let old = state g.S.Store c.args.conn.now in
    let trees = ap (λ (d : Database). d.trees) (c.in_ok-version.ensures.same clean).0.now_is in
    let early : HasCleanDisk old = omega (arith, c.agreed_version.ensures.crash.clean, clean) in
    let order = c.requires early c.in_ok-version.ensures.ours in
    let its = version_given c.in_ok-version.version old.now.trees order (c.in_ok-version.ensures.given clean) in
    let since = subst (λ (v : Version). IsSince v c.in_ok-version.version) c.came_with.ensures (c.is_since.ensures.yes c.if-not-is_since.false) in
    let kept = is_kept _ g.R.Tabled.is_kind old.now.trees order (subst (IsSince g.R.Tabled.since) (sym its) since) in
    subst (λ (t : Trees). IsKept g.R.Tabled.shape g.R.Tabled.order t) (sym trees) kept

pub returns-then-not-is_since-clause-found : goal.returns-then-not-is_since-clause-found
returns-then-not-is_since-clause-found g c clean =
    let old = state g.S.Store c.args.conn.now in
    let T = g.R.Tabled in
    let early : HasCleanDisk old = omega (arith, c.agreed_version.ensures.crash.clean, clean) in
    let order = c.requires early c.in_ok-version.ensures.ours in
    let its = version_given c.in_ok-version.version old.now.trees order (c.in_ok-version.ensures.given clean) in
    let late = c.is_since.ensures.no c.if-not-is_since.true in
    none_of T.since (version_of_tables old.now.trees) (rows_in T.shape old.now.trees) c.args.key.now (sym c.came_with.ensures ∙ late.0) (its ∙ late.1)

pub returns-clause-found : goal.returns-clause-found
returns-clause-found g c clean =
    let T = g.R.Tabled in
    let old = state g.S.Store c.args.conn.now in
    let mid = state g.S.Store c.agreed_version.new.conn in
    let half : HasCleanDisk mid = omega (arith, c.rows_asked.ensures.crash.clean, clean) in
    let early : HasCleanDisk old = omega (arith, c.agreed_version.ensures.crash.clean, half) in
    let stays = ap (λ (d : Database). d.trees) (c.in_ok-version.ensures.same half).0.now_is in
    let order = c.requires early c.in_ok-version.ensures.ours in
    let its = version_given c.in_ok-version.version old.now.trees order (c.in_ok-version.ensures.given half) in
    let since = subst (λ (v : Version). IsSince v c.in_ok-version.version) c.came_with.ensures (c.is_since.ensures.yes c.if-not-is_since.false) in
    let all = all_since T.since (version_of_tables old.now.trees) (rows_in T.shape {R = T.order} old.now.trees) (subst (IsSince T.since) (sym its) since) in
    let trees = mid.now.trees in
    let key = c.args.key.now in
    let asks = g.R.ByKey.Look.asks in
    let asked = subst (λ q. AreAsked T.shape T.order (asks q) mid c.in_ok-rows.rows.items) c.by_key.ensures (c.in_ok-rows.ensures.rows clean) in
    let same = ap (λ (rows : List Row). rows_of T.shape {R = T.order} rows) c.deref.ensures.value ∙ asked in
    let found = found_ok (total T.is_kind) (ties T.is_kind) T.shape (asks (g.R.KeyedRecord.question key)) (rows_in T.shape trees)
    (keyed_rows (total T.is_kind) (ties T.is_kind) T.shape trees)
    c.only.result (rows_of T.shape c.deref.result.now) c.only.ensures.found same in
    let there : rows_in T.shape {R = T.order} trees ≡ rows_since T.since (version_of_tables old.now.trees) (rows_in T.shape {R = T.order} old.now.trees) =
    ap (λ (t : Trees). rows_in T.shape {R = T.order} t) stays ∙ sym all in
    IfOk-weaker c.only.result _ _ (λ it of. of key (g.met.R.KeyedRecord.asks_for key) ∙ ap (λ rows. get rows key) there) found

pub returns-clause-crash : goal.returns-clause-crash
returns-clause-crash g c = survives_both _ _ _ c.agreed_version.ensures.crash c.rows_asked.ensures.crash

pub returns-in_err-rows-clause-crash : goal.returns-in_err-rows-clause-crash
returns-in_err-rows-clause-crash g c = survives_both _ _ _ c.agreed_version.ensures.crash c.rows_asked.ensures.crash
