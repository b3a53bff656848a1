-- What becomes of packets, where only the routers on their way are known.
use Rattle.std.proofs.Common.{◌≡◌, Bool, true, false, List, [], ◌∷◌, ◌++◌, Option, None, Some, Result, Ok, Err, IfOk, refl, sym, ap, subst, ◌∙◌, inl, inr}
use Rattle.std.specs.Prelude.{◌↔◌}
use Rattle.std.specs.Cmp.{Equal-is}
use Rattle.std.specs.List.{flat_map}
use Rattle.std.specs.Option.{option_and_then, option_map_or}
use Rattle.std.specs.Ordering.{eq_by_cmp}
use Rattle.lsa_codec.specs.Order.{router_cmp}
use Rattle.lsa_codec.specs.declared.address.Addr.{Addr}
use Rattle.lsa_codec.specs.declared.address.RouterId.{RouterId}
use Rattle.lsa_codec.proofs.OrderLemmas.{router_exact}
use Rattle.lsdb.specs.Lists.{Lists}
use Rattle.area_graph.proofs.MemberLemmas.{Contains-from_In, In}
use Rattle.forwarding.specs.Graphs.{ForwardingValue, IsForwardingFrom, StepValue, graph_of, graph_over, next_in, routers_of, routes_at, step_at}
use Rattle.forwarding.specs.Matches.{MatchValue, RouterValue}
use Rattle.forwarding.specs.Walks.{IsWalk, Reaches}
use Rattle.forwarding.proofs.OnTheWayLemmas.{loops_back, reached_back, same_ends, same_next, same_step}
use Rattle.forwarding.proofs.SameWalkLemmas.{reaches_back, reaches_there, same_back, start_reached, walk_there}
use Rattle.route_lines.specs.PathLines.{PathValue}
use Rattle.study_script.specs.declared.condition.Passing.{Passing}
use Rattle.study_script.specs.declared.condition.Passing.TheVariants.{Via, Avoids, Delivered}
use Rattle.route_report.specs.Passing.{Holds, HoldsIn, IsPassed, ends_by, ends_walks}
use Rattle.route_report.specs.Paths.{IsPath, IsPathIn, source_by, steps_by, steps_in, steps_of, steps_over}
use Rattle.route_report.proofs.Finding.{find_passes}

-- what holds of a result, where it is there
pub if_ok : {T E : Type 0} {P Q : T → Type 0} → ((x : T) → P x → Q x) → (r : Result T E) → IfOk r P → IfOk r Q
if_ok implies (Ok x) holds = implies x holds
if_ok implies (Err e) holds = tt

-- a list by its members
by_members : {X Y : Type 0} (f g : X → List Y) (xs : List X) → ((x : X) → In xs x → f x ≡ g x) → flat_map f xs ≡ flat_map g xs
by_members f g [] same = refl
by_members {X} {Y} f g (x ∷ xs) same =
    ap (λ (ys : List Y). ys ++ flat_map f xs) (same x (inl refl)) ∙ ap (λ (ys : List Y). g x ++ ys) (by_members f g xs (λ y i. same y (inr i)))

module _ (db : Lists) (start : RouterId) (address : Addr) (forwarding : ForwardingValue) (from : IsForwardingFrom db start address forwarding) where
  abbrev whole : List StepValue
  whole = graph_of db address

  abbrev part : List StepValue
  part = graph_over db address forwarding.routers

  steps_alike : (router : RouterId) (matched : Option MatchValue) → routes_at forwarding.routers router ≡ routes_at (routers_of db) router
      → steps_by db forwarding.routers router matched ≡ steps_by db (routers_of db) router matched
  steps_alike router None same = refl
  steps_alike router (Some found) same =
      ap (λ (o : Option RouterValue). steps_over db router found (option_and_then (source_by db found.net) o)) same

  -- the steps of each router that walks reach are those of the whole graph
  same_steps : (router : RouterId) → Reaches (next_in whole) start router
      → steps_in db forwarding.routers part router ≡ steps_in db (routers_of db) whole router
  same_steps router reached =
      ap (λ (o : Option StepValue). option_map_or (steps_of db forwarding.routers) o []) (same_step db start address forwarding from router reached)
      ∙ by (step_at whole router) refl
    where
      by : (o : Option StepValue) → step_at whole router ≡ o
          → option_map_or (steps_of db forwarding.routers) o [] ≡ option_map_or (steps_of db (routers_of db)) o []
      by None is = refl
      by (Some step) is =
          let passes = find_passes (λ s. eq_by_cmp router_cmp router s.router) whole step is in
          let own : router ≡ step.router = router_exact router step.router ((Equal-is (router_cmp router step.router)).0 passes) in
          steps_alike step.router step.matched
          (subst (λ (r : RouterId). routes_at forwarding.routers r ≡ routes_at (routers_of db) r) own (from.reached router reached))

  pub whole_path : (path : PathValue) → IsPathIn db forwarding.routers part start path → IsPath db start address path
  whole_path path is =
      let are = reached_back (next_in whole) (next_in part) start (same_next db start address forwarding from) path.routers is.reached in
      record {
        reached = are;
        steps = is.steps ∙ by_members (steps_in db forwarding.routers part) (steps_in db (routers_of db) whole) path.routers
            (λ router i. same_steps router ((are.members router).0 (Contains-from_In path.routers router i)));
        ends = ((is.ends).0, same_ends db start address forwarding from (is.ends).0 (is.ends).1, (is.ends).2);
        loops = loops_back (next_in whole) (next_in part) start (same_next db start address forwarding from) path.routers path.loops
            (λ router has. (are.members router).0 has) is.loops;
      }

-- ---- what walks have to do

-- walks pass a router in two graphs alike that have the same steps at the routers that walks reach
passed : (graph other : List StepValue) (start : RouterId)
    → ((v : RouterId) → Reaches (next_in other) start v → next_in graph v ≡ next_in other v)
    → ((v : RouterId) → Reaches (next_in other) start v → ends_walks graph v ≡ ends_walks other v)
    → (router : RouterId) → IsPassed graph start router → IsPassed other start router
passed graph other start same ends router is =
    let walked : (us : List RouterId) (last : RouterId) → IsWalk (next_in other) start us last → IsWalk (next_in graph) start us last =
    λ us last walk. walk_there (next_in other) (next_in graph) start same us start last (start_reached (next_in other) start) walk in
    record {
      ended = λ us last walk end. is.ended us last (walked us last walk) (ends last (us, walk) ∙ end);
      endless = ((is.endless).0, λ us last walk long. (is.endless).1 us last (walked us last walk) long);
    }

module _ (db : Lists) (start : RouterId) (address : Addr) (forwarding : ForwardingValue) (from : IsForwardingFrom db start address forwarding) where
  abbrev next : RouterId → List RouterId
  next = next_in (graph_of db address)

  abbrev known : RouterId → List RouterId
  known = next_in (graph_over db address forwarding.routers)

  same : (router : RouterId) → Reaches next start router → known router ≡ next router
  same router reached = same_next db start address forwarding from router reached

  ends_alike : (router : RouterId) → Reaches next start router
      → ends_walks (graph_over db address forwarding.routers) router ≡ ends_walks (graph_of db address) router
  ends_alike router reached =
      ap (λ (o : Option StepValue). option_map_or ends_by o false) (same_step db start address forwarding from router reached)

  holds_back : (path : PathValue) (passing : Passing) → HoldsIn (graph_over db address forwarding.routers) start path passing
      → Holds db start address path passing
  holds_back path (Via router) is = passed (graph_over db address forwarding.routers) (graph_of db address) start same ends_alike router is
  holds_back path (Avoids router) avoids = λ reached. avoids (reaches_there next known start same router reached)
  holds_back path Delivered is = is

  holds_there : (path : PathValue) (passing : Passing) → Holds db start address path passing
      → HoldsIn (graph_over db address forwarding.routers) start path passing
  holds_there path (Via router) is =
      passed (graph_of db address) (graph_over db address forwarding.routers) start (same_back next known start same)
      (λ v reached. sym (ends_alike v (reaches_back next known start same v reached))) router is
  holds_there path (Avoids router) avoids = λ reached. avoids (reaches_back next known start same router reached)
  holds_there path Delivered is = is

  pub whole_holds : (path : PathValue) (passing : Passing) (b : Bool)
      → (b ≡ true) ↔ HoldsIn (graph_over db address forwarding.routers) start path passing → (b ≡ true) ↔ Holds db start address path passing
  whole_holds path passing b is = (λ yes. holds_back path passing (is.0 yes), λ holds. is.1 (holds_there path passing holds))
