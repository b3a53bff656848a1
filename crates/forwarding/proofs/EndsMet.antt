-- The ends at the routers that walks reach are those of the walks.
use Rattle.std.proofs.Common.{◌≡◌, Bool, true, false, List, [], ◌∷◌, ◌++◌, refl, sym, ap, ◌∙◌}
use Rattle.std.specs.Prelude.{◌↔◌, ◌||◌}
use Rattle.std.specs.List.{list_any}
use Rattle.std.proofs.lemmas.List.Folds.{list_any-append}
use Rattle.lsa_codec.specs.declared.address.RouterId.{RouterId}
use Rattle.area_graph.proofs.MemberLemmas.{Contains-from_In, In-from_Contains, In-list_any, list_any-In}
use Rattle.forwarding.specs.declared.ends.Ends.{Ends}
use Rattle.forwarding.specs.Graphs.{AreEnds, SomeEnds, StepValue, delivers, drops, leaves_network, next_in, passes_at, step_at}
use Rattle.forwarding.specs.Walks.{AreReached}
use Rattle.forwarding.specs.steps.Ending.{HaveEnds, either, ends_at, no_ends}

or_none : (a b : Bool) → (a || b) ≡ (a || (b || false))
or_none true b = refl
or_none false true = refl
or_none false false = refl

-- one router more
any_push : (p : RouterId → Bool) (routers : List RouterId) (router : RouterId) (b : Bool) → b ≡ list_any p routers
    → (b || p router) ≡ list_any p (routers ++ router ∷ [])
any_push p routers router b is =
    ap (λ (x : Bool). x || p router) is ∙ or_none (list_any p routers) (p router) ∙ sym (list_any-append p routers (router ∷ []))

module _ (graph : List StepValue) where
  pub ends_none : (ends : Ends) → ends ≡ no_ends → HaveEnds graph [] ends
  ends_none ends is = record {
    delivered = ap (λ (e : Ends). e.is_delivered) is;
    external = ap (λ (e : Ends). e.is_external) is;
    blackhole = ap (λ (e : Ends). e.is_blackhole) is;
  }

  pub ends_more : (routers : List RouterId) (router : RouterId) (before ends : Ends) → HaveEnds graph routers before
      → ends ≡ either before (ends_at (step_at graph router)) → HaveEnds graph (routers ++ router ∷ []) ends
  ends_more routers router before ends have is = record {
    delivered = ap (λ (e : Ends). e.is_delivered) is ∙ any_push (passes_at delivers graph) routers router before.is_delivered have.delivered;
    external = ap (λ (e : Ends). e.is_external) is ∙ any_push (passes_at leaves_network graph) routers router before.is_external have.external;
    blackhole = ap (λ (e : Ends). e.is_blackhole) is ∙ any_push (passes_at drops graph) routers router before.is_blackhole have.blackhole;
  }

  some_ends : (test : StepValue → Bool) (start : RouterId) (reached : List RouterId) → AreReached (next_in graph) start reached
      → (b : Bool) → b ≡ list_any (passes_at test graph) reached → (b ≡ true) ↔ SomeEnds test graph start
  some_ends test start reached are b is = (
    λ yes. (let f = list_any-In (passes_at test graph) reached (sym is ∙ yes) in
        (f.0, (are.members f.0).0 (Contains-from_In reached f.0 f.1), f.2)),
    λ some. is ∙ In-list_any (passes_at test graph) reached some.0 (In-from_Contains reached some.0 ((are.members some.0).1 some.1)) some.2,
  )

  pub ends_all : (start : RouterId) (reached : List RouterId) (ends : Ends) → AreReached (next_in graph) start reached
      → HaveEnds graph reached ends → AreEnds graph start ends
  ends_all start reached ends are have = record {
    delivered = some_ends delivers start reached are ends.is_delivered have.delivered;
    external = some_ends leaves_network start reached are ends.is_external have.external;
    blackhole = some_ends drops start reached are ends.is_blackhole have.blackhole;
  }
