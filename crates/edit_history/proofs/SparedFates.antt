-- Fates that turn no LSA into a router-LSA or network-LSA.
use Rattle.std.proofs.Common.{◌≡◌, ℕ, Bool, true, false, cond, List, Option, Some, None, refl, sym, ap, ◌∙◌, subst}
use Rattle.std.specs.Prelude.{filter, if◌then◌else◌, ◌==◌}
use Rattle.std.proofs.lemmas.Bool.{eqb-true, or_parts, and_left, cond-false}
use Rattle.lsa_codec.specs.declared.address.Addr.{Addr}
use Rattle.lsa_codec.specs.declared.address.AreaId.{AreaId}
use Rattle.lsa_codec.specs.declared.address.RouterId.{RouterId}
use Rattle.lsa_codec.specs.declared.key.Key.{Key}
use Rattle.lsa_codec.specs.Accepted.{IsAccepted}
use Rattle.lsa_codec.specs.Areas.{is_backbone}
use Rattle.lsa_codec.specs.Fields.{kind_of, advertising_router_of}
use Rattle.lsa_codec.specs.Key.{key_of, router_key}
use Rattle.lsa_codec.proofs.LsaLemmas.{metric_rewritten}
use Rattle.lsdb.specs.declared.section.Section.{Section}
use Rattle.lsdb.specs.declared.section.Section.TheVariants.{Area}
use Rattle.area_graph.specs.Area.{is_network_lsa, is_router_lsa}
use Rattle.event_links.specs.Selections.{id_of as id_of_head}
use Rattle.lsdb.specs.Lists.{AreaHead, Lists, is_head_of, has_key, is_network}
use Rattle.lsdb.proofs.KeyLemmas.{same_key_true}
use Rattle.summary_metrics.specs.Refreshed.{id_of, is_stale, due_in, refreshed_areas}
use Rattle.edit_history.specs.Rules.{Fate, stays, removed, rewritten, Rule, by_fates, one_lsa, within}
use Rattle.event_links.specs.declared.selection.LinkEdit.{LinkEdit}
use Rattle.event_lsas.specs.LinkEvents.{outcome_of}
use Rattle.event_lsas.specs.Outcomes.{LsaChange, kept, becomes}
use Rattle.event_lsas.proofs.ReplacementLemmas.{outcome_safe}
use Rattle.edit_history.specs.Effect.{link_fate, net_fate, router_fate, is_graph_kind}
use Rattle.network_departures.specs.declared.departure.Departure.{Departure}
use Rattle.network_departures.specs.Leaving.{is_left, networks_left}
use Rattle.departures.specs.Departures.{is_of_failed, router_lsa_after}
use Rattle.edit_history.specs.Events.{departure_fates, fate_of_change, link_fates}
use Rattle.edit_history.specs.Refreshing.{with_due, metric_fate, refresh_fates}
use Rattle.edit_history.proofs.RefreshFates.{stale_has_metric}

abbrev pub is_graph_lsa : List ℕ → Bool
is_graph_lsa lsa = is_graph_kind (kind_of lsa)

abbrev pub graph_of : List (List ℕ) → List (List ℕ)
graph_of lsas = filter is_graph_lsa lsas

-- ---- fates that turn no LSA into one of the graph

abbrev pub IsSpared : Fate → Type 0
IsSpared stays = Unit {0}
IsSpared removed = Unit {0}
IsSpared (rewritten new) = is_graph_lsa new ≡ false

-- an LSA that is not of the graph does not become one of it
abbrev pub Spares : Rule → Type 0
Spares rule = (head : Option AreaHead) (lsa : List ℕ) → IsAccepted lsa → is_graph_lsa lsa ≡ false → IsSpared (rule.fates head lsa)

spared_if : (b : Bool) (f g : Fate) → (b ≡ true → IsSpared f) → (b ≡ false → IsSpared g) → IsSpared (if b then f else g)
spared_if true f g one two = one refl
spared_if false f g one two = two refl

no_router_lsa : (lsa : List ℕ) → is_graph_lsa lsa ≡ false → kind_of lsa ≡ 1 → ⊥
no_router_lsa lsa other is = let of_graph : is_graph_lsa lsa ≡ true = ap is_graph_kind is in cc

no_router_key : (router : RouterId) (lsa : List ℕ) → is_graph_lsa lsa ≡ false → has_key (router_key router) lsa ≡ true → ⊥
no_router_key router lsa other has = no_router_lsa lsa other (ap (λ (k : Key). k.kind) (same_key_true (key_of lsa) (router_key router) has))

pub router_lsa_spares : (name : Section) (router : RouterId) (fate : Fate) → Spares (one_lsa name (router_key router) fate)
router_lsa_spares name router fate head lsa accepted other =
    spared_if (is_head_of name head) _ _ (λ _. spared_if (has_key (router_key router) lsa) _ _ (λ has. absurd (no_router_key router lsa other has))
    (λ _. tt)) (λ _. tt)

pub one_spares : (name : Section) (key : Key) (fate : Fate) → IsSpared fate → Spares (one_lsa name key fate)
one_spares name key fate spared head lsa accepted other =
    spared_if (is_head_of name head) _ _ (λ _. spared_if (has_key key lsa) _ _ (λ _. spared) (λ _. tt)) (λ _. tt)

pub links_spare : (area : AreaId) (router neighbor : RouterId) → Spares (within (Area area) (link_fate router neighbor))
links_spare area router neighbor head lsa accepted other =
    spared_if (is_head_of (Area area) head) _ _
    (λ _. spared_if (has_key (router_key router) lsa) _ _ (λ has. absurd (no_router_key router lsa other has))
    (λ _. spared_if (has_key (router_key neighbor) lsa) _ _ (λ has. absurd (no_router_key neighbor lsa other has)) (λ _. tt)))
    (λ _. tt)

pub network_spares : (area : AreaId) (network : Addr) → Spares (within (Area area) (net_fate network))
network_spares area network head lsa accepted other =
    spared_if (is_head_of (Area area) head) _ _
    (λ _. spared_if (is_network network lsa) _ _ (λ _. tt)
    (λ _. spared_if (kind_of lsa == 1) _ _ (λ is. absurd (no_router_lsa lsa other (eqb-true _ _ is))) (λ _. tt)))
    (λ _. tt)

pub router_spares : (router : RouterId) → Spares (by_fates (λ head. router_fate router))
router_spares router head lsa accepted other = spared_if (advertising_router_of lsa == router.0) _ _ (λ _. tt) (λ _. tt)

-- a summary-LSA with another metric is not of the graph
metric_spares : (db : Lists) (area : AreaId) (lsa : List ℕ) → IsAccepted lsa → is_graph_lsa lsa ≡ false → IsSpared (metric_fate db area lsa)
metric_spares db area lsa accepted other = by_test (is_stale db area lsa) refl where
  by_test : (b : Bool) → is_stale db area lsa ≡ b → IsSpared (with_due (cond b (Some (due_in db area lsa)) None) lsa)
  by_test true stale =
      let made = metric_rewritten (due_in db area lsa) lsa accepted (stale_has_metric db area lsa stale) in
      ap (λ (k : Key). is_graph_kind k.kind) made.key ∙ other
  by_test false stale = tt

pub refresh_spares : (db : Lists) → Spares (by_fates (refresh_fates db))
refresh_spares db None lsa accepted other = tt
refresh_spares db (Some head) lsa accepted other =
    spared_if (is_backbone (id_of head)) (metric_fate db (id_of head) lsa) (metric_fate (refreshed_areas is_backbone db) (id_of head) lsa)
    (λ _. metric_spares db (id_of head) lsa accepted other) (λ _. metric_spares (refreshed_areas is_backbone db) (id_of head) lsa accepted other)

-- an LSA in place of another has its type
pub events_spare : (db : Lists) (edit : LinkEdit) → Spares (by_fates (link_fates db edit))
events_spare db edit head lsa accepted other = by_outcome (outcome_of db edit head lsa) refl where
  by_outcome : (c : LsaChange) → outcome_of db edit head lsa ≡ c → IsSpared (fate_of_change c)
  by_outcome kept is = tt
  by_outcome (becomes None) is = tt
  by_outcome (becomes (Some new)) is =
      let made = outcome_safe db edit head lsa new accepted is in
      ap (λ (k : Key). is_graph_kind k.kind) made.key ∙ other

-- an LSA that is none of the graph is removed or stays where a router goes
removed_or_kept : (b : Bool) (c : LsaChange) → IsSpared (fate_of_change c) → IsSpared (fate_of_change (if b then becomes None else c))
removed_or_kept true c spared = tt
removed_or_kept false c spared = spared

no_network : (lsa : List ℕ) → is_graph_lsa lsa ≡ false → is_network_lsa lsa ≡ false
no_network lsa other = (or_parts (kind_of lsa == 1) (kind_of lsa == 2) other).1

no_router : (lsa : List ℕ) → is_graph_lsa lsa ≡ false → is_router_lsa lsa ≡ false
no_router lsa other = (or_parts (kind_of lsa == 1) (kind_of lsa == 2) other).0

pub departures_spare : (db : Lists) (event : Departure) → Spares (by_fates (departure_fates db event))
departures_spare db event None lsa accepted other = removed_or_kept (is_of_failed event lsa) kept tt
departures_spare db event (Some head) lsa accepted other =
    let area : AreaId = id_of_head head in
    let stays_in : LsaChange = router_lsa_after db event area (networks_left db event area) lsa in
    let same : stays_in ≡ kept = cond-false _ _ _ (and_left _ _ (no_router lsa other)) in
    let not_left : is_left db event area lsa ≡ false = and_left _ _ (and_left _ _ (no_network lsa other)) in
    let spared : IsSpared (fate_of_change stays_in) = subst (λ (c : LsaChange). IsSpared (fate_of_change c)) (sym same) tt in
    subst (λ (c : LsaChange). IsSpared (fate_of_change c)) (sym (cond-false _ _ _ not_left)) (removed_or_kept (is_of_failed event lsa) stays_in spared)
