-- What holds of the walks of packets holds where only the routers on their way are known.
use Rattle.std.proofs.Common.{◌≡◌, ℕ, Bool, true, false, List, [], get_or, sym, ap, subst, ◌∙◌}
use Rattle.std.specs.Prelude.{◌↔◌, Contains, Option}
use Rattle.std.specs.Option.{option_map, option_map_or}
use Rattle.lsa_codec.specs.declared.address.Addr.{Addr}
use Rattle.lsa_codec.specs.declared.address.RouterId.{RouterId}
use Rattle.lsdb.specs.Lists.{Lists}
use Rattle.forwarding.specs.declared.ends.Ends.{Ends}
use Rattle.forwarding.specs.Graphs.{AreEnds, ForwardingValue, IsForwardingFrom, SomeEnds, StepValue, delivers, drops, graph_of, graph_over, leaves_network, next_in, routers_of, step_at, step_of, ways_by}
use Rattle.forwarding.specs.Walks.{AreLoops, AreReached, Goes, IsLeastSteps, IsLoopFrom, Reaches}
use Rattle.hop_ends.specs.Ways.{routers_over}
use Rattle.forwarding.proofs.PartKnown.{step_over}
use Rattle.forwarding.proofs.SameWalkLemmas.{reaches_back, reaches_on, reaches_there, same_back, start_reached, walk_reaches, walk_there}

-- ---- from one graph to another

module _ (next other : RouterId → List RouterId) (start : RouterId) (same : (v : RouterId) → Reaches next start v → other v ≡ next v) where
  least : (w : RouterId) (n : ℕ) → IsLeastSteps next start w n → IsLeastSteps other start w n
  least w n at = (
    ((at.0).0, walk_there next other start same (at.0).0 start w (start_reached next start) (at.0).1, (at.0).2),
    λ us walk. at.1 us (walk_there other next start (same_back next other start same) us start w (start_reached other start) walk),
  )

  goes : (v w : RouterId) → Reaches next start v → Goes next v w → Goes other v w
  goes v w reached way = (
    way.0,
    subst (λ (xs : List RouterId). Contains xs way.0) (sym (same v reached)) way.1,
    ((way.2).0, walk_there next other start same (way.2).0 way.0 w (reaches_on next start v way.0 reached way.1) (way.2).1),
  )

  -- walks that lead to and fro
  both : (v w : RouterId) → Reaches next start v → Goes next v w × Goes next w v → Goes other v w × Goes other w v
  both v w reached ways =
      let there = walk_reaches next start ((ways.0).2).0 (ways.0).0 w (reaches_on next start v (ways.0).0 reached (ways.0).1) ((ways.0).2).1 in
      (goes v w reached ways.0, goes w v there ways.1)

module _ (next other : RouterId → List RouterId) (start : RouterId) (same : (v : RouterId) → Reaches next start v → other v ≡ next v) where
  loop : (v : RouterId) (routers : List RouterId) → Reaches next start v → IsLoopFrom next v routers → IsLoopFrom other v routers
  loop v routers reached from = record {
    loop_of = record {
      members = λ w. (
        λ has. both next other start same v w reached (((from.loop_of).members w).0 has),
        λ ways. ((from.loop_of).members w).1
            (both other next start (same_back next other start same) v w (reaches_there next other start same v reached) ways),
      );
      order = (from.loop_of).order;
    };
    least = from.least;
  }

-- ---- what is found in the second is found in the first

module _ (next other : RouterId → List RouterId) (start : RouterId) (same : (v : RouterId) → Reaches next start v → other v ≡ next v) where
  pub reached_back : (found : List RouterId) → AreReached other start found → AreReached next start found
  reached_back found are = record {
    members = λ router. (
      λ has. reaches_back next other start same router ((are.members router).0 has),
      λ reached. (are.members router).1 (reaches_there next other start same router reached),
    );
    order = λ i j d lt within. (λ m n at_v at_w.
        are.order i j d lt within m n (least next other start same (get_or found i d) m at_v) (least next other start same (get_or found j d) n at_w));
  }

  pub loops_back : (routers : List RouterId) (loops : List (List RouterId)) → ((v : RouterId) → Contains routers v → Reaches next start v)
      → AreLoops other routers loops → AreLoops next routers loops
  loops_back routers loops reached are = record {
    each = λ k d lt. (let e = are.each k d lt in (
      e.0,
      e.1,
      loop other next start (same_back next other start same) e.0 (get_or loops k d)
          (reaches_there next other start same e.0 (reached e.0 e.1)) e.2,
    ));
    all = λ router routers has from. are.all router routers has (loop next other start same router routers (reached router has) from);
    order = are.order;
  }

-- ---- ends of walks

-- walks end alike in two graphs that have the same steps at the routers that walks reach
some_end : (graph other : List StepValue) (start : RouterId)
    → ((router : RouterId) → Reaches (next_in graph) start router → Reaches (next_in other) start router × (step_at other router ≡ step_at graph router))
    → (test : StepValue → Bool) → SomeEnds test graph start → SomeEnds test other start
some_end graph other start same test some =
    let there = same some.0 some.1 in
    (some.0, there.0, ap (λ (s : Option StepValue). option_map_or test s false) there.1 ∙ some.2)

-- ---- on the way of packets

module _ (db : Lists) (start : RouterId) (address : Addr) (forwarding : ForwardingValue) (from : IsForwardingFrom db start address forwarding) where
  abbrev whole : List StepValue
  whole = graph_of db address

  abbrev part : List StepValue
  part = graph_over db address forwarding.routers

  -- the step of each router that walks reach is that of the whole graph
  pub same_step : (router : RouterId) → Reaches (next_in whole) start router → step_at part router ≡ step_at whole router
  same_step router reached =
      step_over db address forwarding.routers router
      ∙ ap (option_map (step_of db address)) (from.reached router reached)
      ∙ sym (step_over db address (routers_of db) router)

  pub same_next : (router : RouterId) → Reaches (next_in whole) start router → next_in part router ≡ next_in whole router
  same_next router reached = ap (λ (s : Option StepValue). routers_over (option_map_or (ways_by whole) s [])) (same_step router reached)

  there : (router : RouterId) → Reaches (next_in whole) start router → Reaches (next_in part) start router × (step_at part router ≡ step_at whole router)
  there router reached = (reaches_there (next_in whole) (next_in part) start same_next router reached, same_step router reached)

  back : (router : RouterId) → Reaches (next_in part) start router → Reaches (next_in whole) start router × (step_at whole router ≡ step_at part router)
  back router reached =
      let known = reaches_back (next_in whole) (next_in part) start same_next router reached in (known, sym (same_step router known))

  alike : (test : StepValue → Bool) (b : Bool) → (b ≡ true) ↔ SomeEnds test part start → (b ≡ true) ↔ SomeEnds test whole start
  alike test b is = (λ yes. some_end part whole start back test (is.0 yes), λ some. is.1 (some_end whole part start there test some))

  pub same_ends : (ends : Ends) → AreEnds part start ends → AreEnds whole start ends
  same_ends ends are = record {
    delivered = alike delivers ends.is_delivered are.delivered;
    external = alike leaves_network ends.is_external are.external;
    blackhole = alike drops ends.is_blackhole are.blackhole;
  }
