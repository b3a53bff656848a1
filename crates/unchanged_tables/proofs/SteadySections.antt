-- The sections of a database before and after steady changes: areas, live router-LSAs, and the LSAs of areas and of AS scope.
use Rattle.std.proofs.Common.{◌≡◌, ◌⊎◌, ℕ, Bool, true, false, cond, not, List, [], ◌∷◌, Option, Some, None, refl, sym, ap, ◌∙◌, subst, inl, inr}
use Rattle.std.proofs.Common.{true≢false}
use Rattle.std.specs.Prelude.{◌||◌}
use Rattle.std.specs.List.{AllZip, cons_option, filter, find}
use Rattle.std.specs.Option.{option_map_or}
use Rattle.std.proofs.lemmas.Bool.{and_parts, eqb-true}
use Rattle.lsa_codec.specs.declared.address.AreaId.{AreaId}
use Rattle.lsa_codec.specs.declared.address.RouterId.{RouterId}
use Rattle.lsa_codec.specs.declared.key.Key.{Key}
use Rattle.lsa_codec.specs.Fields.{kind_of}
use Rattle.lsa_codec.specs.Key.{key_of, router_key}
use Rattle.lsdb.specs.declared.section.Section.{Section}
use Rattle.lsdb.specs.declared.section.Section.TheVariants.{Area, AsWide}
use Rattle.lsdb.specs.Lists.{AreaHead, Lists, SectionLsas, areas_of, has_id, has_key, is_as_wide, is_head_of, is_section, lsas_of, lsas_or_none, same_key}
use Rattle.area_graph.specs.Area.{is_live, is_network_lsa, is_router_lsa}
use Rattle.area_routes.specs.Attached.{attached_areas, has_live_router_lsa}
use Rattle.unchanged_tables.specs.Slack.{AreSteadyLsas, DistanceOf, IsSteadyLsa}
use Rattle.unchanged_tables.specs.Steady.{AreSteady, AreSteadyIn, IsElsewhere, IsSteadySection, distances_from, is_foreign}

-- ---- one LSA

-- the same key, as far as it is the router's, and the same age class where it has it
record IsAlike (router : RouterId) (old new : List ℕ) : Type 0 where
  keyed : has_key (router_key router) new ≡ has_key (router_key router) old
  live : has_key (router_key router) old ≡ true → is_live new ≡ is_live old

same_lsa : (router : RouterId) (old new : List ℕ) → new ≡ old → IsAlike router old new
same_lsa router old new e = record { keyed = ap (has_key (router_key router)) e; live = λ _. ap is_live e }

steady_alike : (distance : DistanceOf) (router : RouterId) (old new : List ℕ) → (new ≡ old) ⊎ IsSteadyLsa distance old new → IsAlike router old new
steady_alike distance router old new (inl e) = same_lsa router old new e
steady_alike distance router old new (inr s) =
    let kind : kind_of new ≡ kind_of old = eqb-true (kind_of new) 1 s.is_router ∙ sym (eqb-true (kind_of old) 1 s.was_router) in
    let key : key_of new ≡ key_of old = λ i. record { kind = kind i; id = record { 0 = s.id i }; adv = record { 0 = s.adv i } } in
    record { keyed = ap (λ (k : Key). same_key k (router_key router)) key; live = λ _. ap not s.age }

-- a foreign LSA has another key
foreign_keyed : (router : RouterId) (lsa : List ℕ) → is_foreign router lsa ≡ true → has_key (router_key router) lsa ≡ false
foreign_keyed router lsa h =
    by (has_key (router_key router) lsa) (and_parts (is_router_lsa lsa || is_network_lsa lsa) (not (has_key (router_key router) lsa)) h).1
  where
    by : (b : Bool) → not b ≡ true → b ≡ false
    by true e = sym e
    by false e = refl

elsewhere_alike : (router : RouterId) (old new : List ℕ) → IsElsewhere router old new → IsAlike router old new
elsewhere_alike router old new (inl e) = same_lsa router old new e
elsewhere_alike router old new (inr (f, g)) =
    let was = foreign_keyed router old f in
    record { keyed = foreign_keyed router new g ∙ sym was; live = λ keyed. absurd (true≢false (sym keyed ∙ was)) }

-- ---- the LSAs of an area

each_alike : (router : RouterId) (R : List ℕ → List ℕ → Type 0) → ((old new : List ℕ) → R old new → IsAlike router old new)
    → (olds news : List (List ℕ)) → AllZip R olds news → has_live_router_lsa router news ≡ has_live_router_lsa router olds
each_alike router R alike [] [] h = refl
each_alike router R alike [] (y ∷ ys) h = absurd h
each_alike router R alike (x ∷ xs) [] h = absurd h
each_alike router R alike (x ∷ xs) (y ∷ ys) h =
    let a = alike x y h.0 in
    ap (λ b. option_map_or is_live (cond b (Some y) (find (has_key (router_key router)) ys)) false) a.keyed
    ∙ by (has_key (router_key router) x) a.live (each_alike router R alike xs ys h.1)
  where
    by : (b : Bool) → (b ≡ true → is_live y ≡ is_live x) → has_live_router_lsa router ys ≡ has_live_router_lsa router xs
        → option_map_or is_live (cond b (Some y) (find (has_key (router_key router)) ys)) false
        ≡ option_map_or is_live (cond b (Some x) (find (has_key (router_key router)) xs)) false
    by true live rest = live refl
    by false live rest = rest

-- the LSAs of an area before and after
abbrev pub IsSteadyArea : RouterId → List (List ℕ) → List (List ℕ) → Type 0
IsSteadyArea router olds news =
    AreSteadyLsas (distances_from router olds) olds news
    ⊎ ((has_live_router_lsa router olds ≡ false) × AllZip (IsElsewhere router) olds news)

pub elsewhere_live : (router : RouterId) (olds news : List (List ℕ)) → AllZip (IsElsewhere router) olds news
    → has_live_router_lsa router news ≡ has_live_router_lsa router olds
elsewhere_live router = each_alike router (IsElsewhere router) (elsewhere_alike router)

pub live_stays : (router : RouterId) (olds news : List (List ℕ)) → IsSteadyArea router olds news
    → has_live_router_lsa router news ≡ has_live_router_lsa router olds
live_stays router olds news (inl steady) =
    each_alike router (λ old new. (new ≡ old) ⊎ IsSteadyLsa (distances_from router olds) old new)
    (steady_alike (distances_from router olds) router) olds news steady
live_stays router olds news (inr (apart, elsewhere)) = elsewhere_live router olds news elsewhere

-- ---- sections

-- what is found before and after
abbrev BothFound : RouterId → Option SectionLsas → Option SectionLsas → Type 0
BothFound router None None = Unit {0}
BothFound router None (Some new) = ⊥
BothFound router (Some old) None = ⊥
BothFound router (Some old) (Some new) = IsSteadySection router old new

pub areas_stay : (router : RouterId) (olds news : Lists) → AreSteady router olds news → areas_of news ≡ areas_of olds
areas_stay router [] [] h = refl
areas_stay router [] (y ∷ ys) h = absurd h
areas_stay router (x ∷ xs) [] h = absurd h
areas_stay router (x ∷ xs) (y ∷ ys) h = λ i. cons_option ((h.0).area i) (areas_stay router xs ys h.1 i)

both_found : (router : RouterId) (name : Section) (olds news : Lists) → AreSteady router olds news
    → BothFound router (find (is_section name) olds) (find (is_section name) news)
both_found router name [] [] h = tt
both_found router name [] (y ∷ ys) h = absurd h
both_found router name (x ∷ xs) [] h = absurd h
both_found router name (x ∷ xs) (y ∷ ys) h = by (is_section name x) (is_section name y) (λ i. is_head_of name ((h.0).area i)) (both_found router name xs ys h.1)
  where
    by : (b d : Bool) → d ≡ b → BothFound router (find (is_section name) xs) (find (is_section name) ys)
        → BothFound router (cond b (Some x) (find (is_section name) xs)) (cond d (Some y) (find (is_section name) ys))
    by true true e rest = h.0
    by true false e rest = absurd (true≢false (sym e))
    by false true e rest = absurd (true≢false e)
    by false false e rest = rest

-- a section that is an area
in_area : (router : RouterId) (id : ℕ) (head : Option AreaHead) (olds news : List (List ℕ)) → has_id id head ≡ true
    → AreSteadyIn router head olds news → IsSteadyArea router olds news
in_area router id None olds news named steady = absurd (true≢false (sym named))
in_area router id (Some area) olds news named steady = steady

-- the section of AS scope
as_wide : (router : RouterId) (head : Option AreaHead) (olds news : List (List ℕ)) → is_as_wide head ≡ true → AreSteadyIn router head olds news → news ≡ olds
as_wide router None olds news wide steady = steady
as_wide router (Some area) olds news wide steady = absurd (true≢false (sym wide))

-- what is found has passed the test
pub passed : {X : Type 0} (p : X → Bool) (xs : List X) (x : X) → find p xs ≡ Some x → p x ≡ true
passed p [] x h = cc
passed {X} p (y ∷ ys) x h = by (p y) refl h (passed p ys x)
  where
    by : (b : Bool) → p y ≡ b → cond b (Some y) (find p ys) ≡ Some x → (find p ys ≡ Some x → p x ≡ true) → p x ≡ true
    by true is k rest = let same : y ≡ x = cc in subst (λ (z : X). p z ≡ true) same is
    by false is k rest = rest k

-- the LSAs of an area before and after
pub area_steady : (router : RouterId) (area : AreaId) (olds news : Lists) → AreSteady router olds news
    → IsSteadyArea router (lsas_of (Area area) olds) (lsas_of (Area area) news)
area_steady router area olds news steady =
    by (find (is_section (Area area)) olds) (find (is_section (Area area)) news) refl (both_found router (Area area) olds news steady)
  where
    by : (o n : Option SectionLsas) → find (is_section (Area area)) olds ≡ o → BothFound router o n → IsSteadyArea router (lsas_or_none o) (lsas_or_none n)
    by None None e both = inl tt
    by None (Some new) e both = absurd both
    by (Some old) None e both = absurd both
    by (Some old) (Some new) e both = in_area router area.0 old.area old.lsas new.lsas (passed (is_section (Area area)) olds old e) both.lsas

-- those of AS scope stay
pub as_wide_stays : (router : RouterId) (olds news : Lists) → AreSteady router olds news → lsas_of AsWide news ≡ lsas_of AsWide olds
as_wide_stays router olds news steady = by (find (is_section AsWide) olds) (find (is_section AsWide) news) refl (both_found router AsWide olds news steady)
  where
    by : (o n : Option SectionLsas) → find (is_section AsWide) olds ≡ o → BothFound router o n → lsas_or_none n ≡ lsas_or_none o
    by None None e both = refl
    by None (Some new) e both = absurd both
    by (Some old) None e both = absurd both
    by (Some old) (Some new) e both = as_wide router old.area old.lsas new.lsas (passed (is_section AsWide) olds old e) both.lsas

-- the areas that the router is attached to
pub attached_stay : (router : RouterId) (olds news : Lists) → AreSteady router olds news → attached_areas news router ≡ attached_areas olds router
attached_stay router olds news steady =
    let alike : (area : AreaHead) → has_live_router_lsa router (lsas_of (Area (record { 0 = area.id })) news)
    ≡ has_live_router_lsa router (lsas_of (Area (record { 0 = area.id })) olds) =
    λ area. live_stays router _ _ (area_steady router (record { 0 = area.id }) olds news steady) in
    λ i. filter (λ area. alike area i) (areas_stay router olds news steady i)
