use Rattle.std.proofs.Common.{◌∙◌, ◌+◌, refl, sym, ap, subst, arith}
use Rattle.lsdb.specs.Lists.{AreaHead}
use Rattle.lsdb.specs.Slots.{lists_of}
use Rattle.area_routes.specs.Attached.{is_attached}
use Rattle.routing_table.specs.KeptTrees.{GainsOnly}
use Rattle.routing_table.specs.AreasTrees.{KeptTreesValue, AreOfDatabase, trees_in}
use Rattle.routing_table.proofs.TableLemmas.{more_results, same_results, all_results}
use Rattle.routing_table.proofs.TableLemmas.{attached_somewhere, on_err}
use Rattle.routing_table.proofs.TreeCounts.{IsGrown, all_counted, all_grown, at_most_one_more, counts_all, none_counted_more, none_grown}
use Rattle.routing_table.proofs.TreeCounts.{gained_in, gained_twice, none_gained, none_more_grown, one_counted_more, one_grown, within_all}
use Rattle.routing_table.proofs.kept_trees.KeptTrees.results_of.Goals as goal
use Rattle.routing_table.proofs.kept_trees.KeptTrees.results_of.Goals.{then-is_attached+in_ok-grow+in_ok-result_of+in_ok-push, else-is_attached}

pub loop-i-init : goal.loop-i-init
loop-i-init g c = record {
  results = c.new-results.ensures.items;
  graphs = c.requires;
  grown = none_grown (lists_of c.args.database.now) c.args.router (trees_in c.args.self.now);
  only = none_gained (λ area. is_attached (lists_of c.args.database.now) area c.args.router) c.args.router (trees_in c.args.self.now);
  meter = refl;
}

pub loop-i-preserved : goal.loop-i-preserved
loop-i-preserved g c =
    let db = lists_of c.args.database.now in
    let head : AreaHead = record { id = c.area-is_stub.result.0.0; is_stub = c.area-is_stub.result.1 } in
    let first = trees_in c.args.self.now in
    elim c.if-is_attached.branch [
      | then-is_attached+in_ok-grow+in_ok-result_of+in_ok-push w ↦
          (let joined = sym c.is_attached.ensures ∙ w.if-is_attached.true in
          record {
            results = more_results db c.args.router c.loop-i.i head c.area-is_stub.ensures c.loop-i.results.items
                c.if-is_attached.results.items _ c.loop-i.invariant.results
                joined w.in_ok-result_of.ensures (ap (λ v. v.items) w.results-is ∙ w.in_ok-push.ensures.items);
            graphs = subst (λ (k : KeptTreesValue). AreOfDatabase db k) (sym w.self-is) w.in_ok-grow.ensures.graphs;
            grown = subst (λ (k : KeptTreesValue). IsGrown db c.args.router (c.loop-i.i + 1) first (trees_in k)) (sym w.self-is)
                (one_grown db c.args.router c.loop-i.i head c.area-is_stub.ensures c.assert_valid.ensures first
                (trees_in c.loop-i.self) c.loop-i.invariant.grown joined (trees_in w.grow.new.self)
                w.in_ok-grow.ensures.keeps w.in_ok-grow.ensures.others w.in_ok-grow.ensures.grown);
            only = subst (λ (k : KeptTreesValue). GainsOnly (λ area. is_attached db area c.args.router) c.args.router first (trees_in k)) (sym w.self-is)
                (gained_twice (λ area. is_attached db area c.args.router) c.args.router first (trees_in c.loop-i.self) (trees_in w.grow.new.self)
                c.loop-i.invariant.only
                (gained_in (λ area. is_attached db area c.args.router) c.args.router c.area-is_stub.result.0 _ _ joined w.in_ok-grow.ensures.no_more));
            meter = w.meter-is
                ∙ one_counted_more db c.args.router c.loop-i.i head c.area-is_stub.ensures c.assert_valid.ensures first
                (trees_in c.loop-i.self) c.loop-i.invariant.grown joined
                c.args.meter.now c.loop-i.meter w.grow.new.meter c.loop-i.invariant.meter w.in_ok-grow.ensures.meter;
          })
      | else-is_attached w ↦
          (let apart = sym c.is_attached.ensures ∙ w.if-is_attached.false in
          record {
            results = ap (λ v. v.items) w.results-is
                ∙ same_results db c.args.router c.loop-i.i head c.area-is_stub.ensures c.loop-i.results.items c.loop-i.invariant.results apart;
            graphs = subst (λ (k : KeptTreesValue). AreOfDatabase db k) (sym w.self-is) c.loop-i.invariant.graphs;
            grown = subst (λ (k : KeptTreesValue). IsGrown db c.args.router (c.loop-i.i + 1) first (trees_in k)) (sym w.self-is)
                (none_more_grown db c.args.router c.loop-i.i head c.area-is_stub.ensures c.assert_valid.ensures first
                (trees_in c.loop-i.self) c.loop-i.invariant.grown apart);
            only = subst (λ (k : KeptTreesValue). GainsOnly (λ area. is_attached db area c.args.router) c.args.router first (trees_in k)) (sym w.self-is)
                c.loop-i.invariant.only;
            meter = w.meter-is
                ∙ none_counted_more db c.args.router c.loop-i.i head c.area-is_stub.ensures c.assert_valid.ensures first
                (trees_in c.loop-i.self) c.loop-i.invariant.grown apart
                c.args.meter.now c.loop-i.meter c.loop-i.invariant.meter;
          })
    ]

pub returns-clause-results : goal.returns-clause-results
returns-clause-results g c =
    all_results (lists_of c.args.database.now) c.args.router c.loop-i.i c.loop-i.results.items
    (omega (arith, c.area_count-i-end.ensures, c.loop-i-test.false)) c.loop-i.invariant.results

pub returns-clause-keeps : goal.returns-clause-keeps
returns-clause-keeps g c = c.loop-i.invariant.grown.within

pub returns-clause-no_more : goal.returns-clause-no_more
returns-clause-no_more g c = c.loop-i.invariant.only

pub returns-clause-grown : goal.returns-clause-grown
returns-clause-grown g c =
    all_grown (lists_of c.args.database.now) c.args.router c.loop-i.i (trees_in c.args.self.now)
    (trees_in c.loop-i.self) (omega (arith, c.area_count-i-end.ensures, c.loop-i-test.false))
    c.loop-i.invariant.grown

pub returns-clause-meter : goal.returns-clause-meter
returns-clause-meter g c =
    all_counted (lists_of c.args.database.now) c.args.router c.loop-i.i (trees_in c.args.self.now)
    (trees_in c.loop-i.self) (omega (arith, c.area_count-i-end.ensures, c.loop-i-test.false))
    c.args.meter.now c.loop-i.meter c.loop-i.invariant.meter

pub returns-clause-at_most : goal.returns-clause-at_most
returns-clause-at_most g c =
    counts_all _ c.args.meter.now c.loop-i.meter
    (all_counted (lists_of c.args.database.now) c.args.router c.loop-i.i (trees_in c.args.self.now)
    (trees_in c.loop-i.self) (omega (arith, c.area_count-i-end.ensures, c.loop-i-test.false))
    c.args.meter.now c.loop-i.meter c.loop-i.invariant.meter)

-- ---- where memory runs out

pub returns-in_err-grow-clause-memory : goal.returns-in_err-grow-clause-memory
returns-in_err-grow-clause-memory g c =
    on_err c.from_residual.result
    (let head : AreaHead = record { id = c.area-is_stub.result.0.0; is_stub = c.area-is_stub.result.1 } in
    attached_somewhere (lists_of c.args.database.now) c.args.router c.loop-i.i head c.area-is_stub.ensures (sym c.is_attached.ensures ∙ c.if-is_attached.true))

pub returns-in_err-result_of-clause-memory : goal.returns-in_err-result_of-clause-memory
returns-in_err-result_of-clause-memory g c =
    on_err c.from_residual-in_err-result_of.result
    (let head : AreaHead = record { id = c.area-is_stub.result.0.0; is_stub = c.area-is_stub.result.1 } in
    attached_somewhere (lists_of c.args.database.now) c.args.router c.loop-i.i head c.area-is_stub.ensures (sym c.is_attached.ensures ∙ c.if-is_attached.true))

pub returns-in_err-push-clause-memory : goal.returns-in_err-push-clause-memory
returns-in_err-push-clause-memory g c =
    on_err c.from_residual-in_err-push.result
    (let head : AreaHead = record { id = c.area-is_stub.result.0.0; is_stub = c.area-is_stub.result.1 } in
    attached_somewhere (lists_of c.args.database.now) c.args.router c.loop-i.i head c.area-is_stub.ensures (sym c.is_attached.ensures ∙ c.if-is_attached.true))

pub returns-in_err-grow-clause-keeps : goal.returns-in_err-grow-clause-keeps
returns-in_err-grow-clause-keeps g c = within_all _ _ _ c.loop-i.invariant.grown.within c.grow.ensures.keeps

pub returns-in_err-result_of-clause-keeps : goal.returns-in_err-result_of-clause-keeps
returns-in_err-result_of-clause-keeps g c = within_all _ _ _ c.loop-i.invariant.grown.within c.grow.ensures.keeps

pub returns-in_err-push-clause-keeps : goal.returns-in_err-push-clause-keeps
returns-in_err-push-clause-keeps g c = within_all _ _ _ c.loop-i.invariant.grown.within c.grow.ensures.keeps

pub returns-in_err-grow-clause-at_most : goal.returns-in_err-grow-clause-at_most
returns-in_err-grow-clause-at_most g c =
    let head : AreaHead = record { id = c.area-is_stub.result.0.0; is_stub = c.area-is_stub.result.1 } in
    at_most_one_more (lists_of c.args.database.now) c.args.router c.loop-i.i head c.area-is_stub.ensures c.assert_valid.ensures
    (trees_in c.args.self.now) (trees_in c.loop-i.self) c.loop-i.invariant.grown
    (sym c.is_attached.ensures ∙ c.if-is_attached.true) c.args.meter.now c.loop-i.meter c.grow.new.meter c.loop-i.invariant.meter c.grow.ensures.at_most

pub returns-in_err-result_of-clause-at_most : goal.returns-in_err-result_of-clause-at_most
returns-in_err-result_of-clause-at_most g c =
    let head : AreaHead = record { id = c.area-is_stub.result.0.0; is_stub = c.area-is_stub.result.1 } in
    at_most_one_more (lists_of c.args.database.now) c.args.router c.loop-i.i head c.area-is_stub.ensures c.assert_valid.ensures
    (trees_in c.args.self.now) (trees_in c.loop-i.self) c.loop-i.invariant.grown
    (sym c.is_attached.ensures ∙ c.if-is_attached.true) c.args.meter.now c.loop-i.meter c.grow.new.meter c.loop-i.invariant.meter c.grow.ensures.at_most

pub returns-in_err-push-clause-at_most : goal.returns-in_err-push-clause-at_most
returns-in_err-push-clause-at_most g c =
    let head : AreaHead = record { id = c.area-is_stub.result.0.0; is_stub = c.area-is_stub.result.1 } in
    at_most_one_more (lists_of c.args.database.now) c.args.router c.loop-i.i head c.area-is_stub.ensures c.assert_valid.ensures
    (trees_in c.args.self.now) (trees_in c.loop-i.self) c.loop-i.invariant.grown
    (sym c.is_attached.ensures ∙ c.if-is_attached.true) c.args.meter.now c.loop-i.meter c.grow.new.meter c.loop-i.invariant.meter c.grow.ensures.at_most

pub returns-in_err-grow-clause-no_more : goal.returns-in_err-grow-clause-no_more
returns-in_err-grow-clause-no_more g c =
    gained_twice (λ area. is_attached (lists_of c.args.database.now) area c.args.router) c.args.router (trees_in c.args.self.now)
    (trees_in c.loop-i.self) (trees_in c.grow.new.self) c.loop-i.invariant.only
    (gained_in (λ area. is_attached (lists_of c.args.database.now) area c.args.router) c.args.router c.area-is_stub.result.0 _ _
    (sym c.is_attached.ensures ∙ c.if-is_attached.true) c.grow.ensures.no_more)

pub returns-in_err-result_of-clause-no_more : goal.returns-in_err-result_of-clause-no_more
returns-in_err-result_of-clause-no_more g c =
    gained_twice (λ area. is_attached (lists_of c.args.database.now) area c.args.router) c.args.router (trees_in c.args.self.now)
    (trees_in c.loop-i.self) (trees_in c.grow.new.self) c.loop-i.invariant.only
    (gained_in (λ area. is_attached (lists_of c.args.database.now) area c.args.router) c.args.router c.area-is_stub.result.0 _ _
    (sym c.is_attached.ensures ∙ c.if-is_attached.true) c.grow.ensures.no_more)

pub returns-in_err-push-clause-no_more : goal.returns-in_err-push-clause-no_more
returns-in_err-push-clause-no_more g c =
    gained_twice (λ area. is_attached (lists_of c.args.database.now) area c.args.router) c.args.router (trees_in c.args.self.now)
    (trees_in c.loop-i.self) (trees_in c.grow.new.self) c.loop-i.invariant.only
    (gained_in (λ area. is_attached (lists_of c.args.database.now) area c.args.router) c.args.router c.area-is_stub.result.0 _ _
    (sym c.is_attached.ensures ∙ c.if-is_attached.true) c.grow.ensures.no_more)
