-- The trees that the areas of a router lack, area after area.
use Rattle.std.proofs.Common.{◌≡◌, ◌≢◌, ℕ, ◌+◌, ◌<◌, ◌≤◌, Bool, true, false, not, cond, List, [], ◌∷◌, ◌++◌, take, drop, length}
use Rattle.std.proofs.Common.{Option, Some, None, refl, sym, ap, ◌∙◌, subst, arith, true≢false}
use Rattle.std.specs.Prelude.{All}
use Rattle.std.specs.Cmp.{Equal-is}
use Rattle.std.specs.Ordering.{eq_by_cmp}
use Rattle.lsa_codec.specs.Order.{area_cmp}
use Rattle.lsa_codec.proofs.OrderLemmas.{area_exact}
use Rattle.std.specs.List.{AllPairs, cons_option, slice_get, slice_index_or}
use Rattle.std.proofs.lemmas.List.{append-nil, length-append, take-append-drop, take_all}
use Rattle.std.proofs.lemmas.List.Elements.{All-cons, All-head, All-nil, All-tail, filter-append}
use Rattle.std.proofs.lemmas.List.Kept.{AllPairs-cons}
use Rattle.std.proofs.lemmas.Option.{get_or_from_slice_get, slice_get_within}
use Rattle.lsa_codec.specs.declared.address.AreaId.{AreaId}
use Rattle.lsa_codec.specs.declared.address.RouterId.{RouterId}
use Rattle.lsdb.specs.Lists.{AreaHead, IsBefore, IsDatabase, Lists, areas_of, heads_of}
use Rattle.lsdb.proofs.ListLemmas.{pairs_head, pairs_tail}
use Rattle.area_routes.specs.Attached.{attached_areas, id_of}
use Rattle.routing_table.specs.AreaTrees.{missing}
use Rattle.routing_table.specs.AreasTrees.{trees_in}
use Rattle.routing_table.specs.Counting.{counted_by, CountsAtMost}
use Rattle.routing_table.specs.KeptTrees.{GainsOnly, TreeSet, IsWithin, areas_without_tree}
use Rattle.routing_table.proofs.TableLemmas.{among_more, attached_among, counted_twice, joins}

-- how many trees of a router some areas lack
abbrev pub lacking : TreeSet → RouterId → List AreaHead → ℕ
lacking trees router areas = length (areas_without_tree trees router areas)

lacks_one : (trees : TreeSet) (router : RouterId) (area : AreaHead) → lacking trees router (area ∷ []) ≡ missing (trees (id_of area) router)
lacks_one trees router area = by (trees (id_of area) router)
  where
    by : (b : Bool) → length (cond (not b) (area ∷ []) []) ≡ missing b
    by true = refl
    by false = refl

lacks_both : (trees : TreeSet) (router : RouterId) (xs ys : List AreaHead) → lacking trees router (xs ++ ys) ≡ lacking trees router xs + lacking trees router ys
lacks_both trees router xs ys =
    ap length (filter-append (λ area. not (trees (id_of area) router)) xs ys)
    ∙ length-append (areas_without_tree trees router xs) (areas_without_tree trees router ys)

-- where no trees are kept, all areas lack that of a router
pub all_lack : (router : RouterId) (areas : List AreaHead) → areas_without_tree (trees_in (record { areas = []; spare = None })) router areas ≡ areas
all_lack router [] = refl
all_lack router (area ∷ areas) = ap (λ l. area ∷ l) (all_lack router areas)

-- where a larger set is asked, no area lacks its tree that did not before
pub none_lacks : (some all : TreeSet) (router : RouterId) → IsWithin some all → (areas : List AreaHead)
    → areas_without_tree some router areas ≡ [] → areas_without_tree all router areas ≡ []
none_lacks some all router within [] none = refl
none_lacks some all router within (area ∷ areas) none = by (some (id_of area) router) refl (none_lacks some all router within areas) none
  where
    by : (b : Bool) → some (id_of area) router ≡ b → (areas_without_tree some router areas ≡ [] → areas_without_tree all router areas ≡ [])
        → cond (not b) (area ∷ areas_without_tree some router areas) (areas_without_tree some router areas) ≡ []
        → areas_without_tree all router (area ∷ areas) ≡ []
    by true e rest h = ap (λ b. cond (not b) (area ∷ areas_without_tree all router areas) (areas_without_tree all router areas))
        (within (id_of area) router e) ∙ rest h
    by false e rest h = absurd cc

-- ---- areas have different IDs

above : (a : AreaHead) (db : Lists) → All (IsBefore (Some a)) (heads_of db) → All (λ b. a.id < b.id) (areas_of db)
above a [] all = All-nil (λ b. a.id < b.id)
above a (s ∷ db) all = by s.area (All-head (IsBefore (Some a)) s.area (heads_of db) all) (above a db (All-tail (IsBefore (Some a)) s.area (heads_of db) all))
  where
    by : (o : Option AreaHead) → IsBefore (Some a) o → All (λ b. a.id < b.id) (areas_of db) → All (λ b. a.id < b.id) (cons_option o (areas_of db))
    by None before rest = rest
    by (Some b) before rest = All-cons (λ b. a.id < b.id) b (areas_of db) before rest

rising_ids : (db : Lists) → AllPairs IsBefore (heads_of db) → AllPairs (λ a b. a.id < b.id) (areas_of db)
rising_ids [] order = λ i j d lt within. absurd (omega (arith, within))
rising_ids (s ∷ db) order = by s.area (pairs_head IsBefore s.area (heads_of db) order) (rising_ids db (pairs_tail IsBefore s.area (heads_of db) order))
  where
    by : (o : Option AreaHead) → All (IsBefore o) (heads_of db) → AllPairs (λ a b. a.id < b.id) (areas_of db)
        → AllPairs (λ a b. a.id < b.id) (cons_option o (areas_of db))
    by None before rest = rest
    by (Some a) before rest = AllPairs-cons (λ a b. a.id < b.id) a (areas_of db) (above a db before) rest

pub ids_apart : (db : Lists) (i j : ℕ) (a b : AreaHead) → IsDatabase db → i < j
    → slice_get (areas_of db) i ≡ Some a → slice_get (areas_of db) j ≡ Some b → id_of b ≢ id_of a
ids_apart db i j a b sound lt here there same =
    let rises = rising_ids db sound.heads.order i j a lt (slice_get_within (areas_of db) j b there) in
    let first : slice_index_or (areas_of db) i a ≡ a = get_or_from_slice_get (areas_of db) i a a here in
    let second : slice_index_or (areas_of db) j a ≡ b = get_or_from_slice_get (areas_of db) j b a there in
    let ids : b.id ≡ a.id = ap (λ (x : AreaId). x.0) same in
    omega (arith, rises, ap (λ (x : AreaHead). x.id) first, ap (λ (x : AreaHead). x.id) second, ids)

-- ---- one area more

-- what is known after the first areas, where `first` are the trees that were kept before them, and `now` those that are kept now
pub record IsGrown (db : Lists) (router : RouterId) (i : ℕ) (first now : TreeSet) : Type 0 where
  pub within : IsWithin first now
  pub ahead : (j : ℕ) (a : AreaHead) → i ≤ j → slice_get (areas_of db) j ≡ Some a → now (id_of a) router ≡ first (id_of a) router
  pub grown : areas_without_tree now router (attached_among db router (take i (areas_of db))) ≡ []

-- how many trees the first areas lacked
abbrev pub lacked : Lists → RouterId → TreeSet → ℕ → ℕ
lacked db router first i = lacking first router (attached_among db router (take i (areas_of db)))

pub none_grown : (db : Lists) (router : RouterId) (first : TreeSet) → IsGrown db router 0 first first
none_grown db router first = record { within = λ area r h. h; ahead = λ j a le here. refl; grown = refl }

module _ (db : Lists) (router : RouterId) (i : ℕ) (area : AreaHead) (here : slice_get (areas_of db) i ≡ Some area)
    (sound : IsDatabase db) (first now : TreeSet) (so_far : IsGrown db router i first now) where
  -- an area to which the router is attached
  module _ (joined : joins db router area ≡ true) where
    more_areas : attached_among db router (take (i + 1) (areas_of db)) ≡ attached_among db router (take i (areas_of db)) ++ area ∷ []
    more_areas = among_more db router i area here ∙ ap (λ b. attached_among db router (take i (areas_of db)) ++ cond b (area ∷ []) []) joined

    pub one_grown : (next : TreeSet) → IsWithin now next → ((other : AreaId) → other ≢ id_of area → (root : RouterId) → next other root ≡ now other root)
        → next (id_of area) router ≡ true → IsGrown db router (i + 1) first next
    one_grown next keeps others has = record {
      within = λ a r h. keeps a r (so_far.within a r h);
      ahead = λ j a le at. others (id_of a) (ids_apart db i j area a sound (omega (arith, le)) here at) router ∙ so_far.ahead j a (omega (arith, le)) at;
      grown = ap (areas_without_tree next router) more_areas
          ∙ filter-append (λ a. not (next (id_of a) router)) (attached_among db router (take i (areas_of db))) (area ∷ [])
          ∙ ap (λ xs. xs ++ cond (not (next (id_of area) router)) (area ∷ []) [])
          (none_lacks now next router keeps (attached_among db router (take i (areas_of db))) so_far.grown)
          ∙ ap (λ b. cond (not b) (area ∷ []) []) has;
    }

    -- it lacked its tree from the first, or not
    one_lacked : lacked db router first (i + 1) ≡ lacked db router first i + missing (now (id_of area) router)
    one_lacked =
        ap (lacking first router) more_areas ∙ lacks_both first router (attached_among db router (take i (areas_of db))) (area ∷ [])
        ∙ ap (λ n. lacked db router first i + n) (lacks_one first router area ∙ ap missing (sym (so_far.ahead i area (omega arith) here)))

    pub one_counted_more : (old before after : ℕ) → before ≡ counted_by (lacked db router first i) old
        → after ≡ counted_by (missing (now (id_of area) router)) before
        → after ≡ counted_by (lacked db router first (i + 1)) old
    one_counted_more old before after so one =
        one ∙ ap (counted_by (missing (now (id_of area) router))) so
        ∙ counted_twice (missing (now (id_of area) router)) (lacked db router first i) old
        ∙ (let total : missing (now (id_of area) router) + lacked db router first i ≡ lacked db router first (i + 1) = omega (arith, one_lacked) in
        ap (λ k. counted_by k old) total)

    few_lacked : lacked db router first (i + 1) ≤ lacking first router (attached_areas db router)
    few_lacked =
        omega (
          arith,
          ap (lacking first router) (sym (ap (attached_among db router) (take-append-drop (i + 1) (areas_of db)))
              ∙ filter-append (joins db router) (take (i + 1) (areas_of db)) (drop (i + 1) (areas_of db))),
          lacks_both first router (attached_among db router (take (i + 1) (areas_of db))) (attached_among db router (drop (i + 1) (areas_of db))),
        )

    pub at_most_one_more : (old before after : ℕ) → before ≡ counted_by (lacked db router first i) old
        → CountsAtMost (missing (now (id_of area) router)) before after
        → CountsAtMost (lacking first router (attached_areas db router)) old after
    at_most_one_more old before after so last = record {
      trees = last.trees + lacked db router first i;
      few = omega (arith, last.few, one_lacked, few_lacked);
      counts = last.counts ∙ ap (counted_by last.trees) so ∙ counted_twice last.trees (lacked db router first i) old;
    }

  -- another one
  module _ (apart : joins db router area ≡ false) where
    same_areas : attached_among db router (take (i + 1) (areas_of db)) ≡ attached_among db router (take i (areas_of db))
    same_areas =
        among_more db router i area here ∙ ap (λ b. attached_among db router (take i (areas_of db)) ++ cond b (area ∷ []) []) apart
        ∙ append-nil (attached_among db router (take i (areas_of db)))

    pub none_more_grown : IsGrown db router (i + 1) first now
    none_more_grown = record {
      within = so_far.within;
      ahead = λ j a le at. so_far.ahead j a (omega (arith, le)) at;
      grown = ap (areas_without_tree now router) same_areas ∙ so_far.grown;
    }

    pub none_counted_more : (old before : ℕ) → before ≡ counted_by (lacked db router first i) old → before ≡ counted_by (lacked db router first (i + 1)) old
    none_counted_more old before so = so ∙ ap (λ areas. counted_by (lacking first router areas) old) (sym same_areas)

-- ---- all areas

module _ (db : Lists) (router : RouterId) (i : ℕ) (first now : TreeSet) (past : length (areas_of db) ≤ i) where
  pub all_grown : IsGrown db router i first now → areas_without_tree now router (attached_areas db router) ≡ []
  all_grown so_far = ap (λ areas. areas_without_tree now router (attached_among db router areas)) (sym (take_all i (areas_of db) past)) ∙ so_far.grown

  pub all_counted : (old new : ℕ) → new ≡ counted_by (lacked db router first i) old → new ≡ counted_by (lacking first router (attached_areas db router)) old
  all_counted old new so = so ∙ ap (λ areas. counted_by (lacking first router (attached_among db router areas)) old) (take_all i (areas_of db) past)

pub counts_all : (most old new : ℕ) → new ≡ counted_by most old → CountsAtMost most old new
counts_all most old new is = record { trees = most; few = omega arith; counts = is }

pub within_all : (first now next : TreeSet) → IsWithin first now → IsWithin now next → IsWithin first next
within_all first now next one two area router h = two area router (one area router h)

-- ---- no other tree came

pub none_gained : (passes : AreaId → Bool) (router : RouterId) (trees : TreeSet) → GainsOnly passes router trees trees
none_gained passes router trees area root has lacked = absurd (true≢false (sym has ∙ lacked))

pub gained_twice : (passes : AreaId → Bool) (router : RouterId) (first now next : TreeSet) → GainsOnly passes router first now
    → GainsOnly passes router now next → GainsOnly passes router first next
gained_twice passes router first now next one two area root has lacked = by (now area root) refl
  where
    by : (b : Bool) → now area root ≡ b → (root ≡ router) × (passes area ≡ true)
    by true e = one area root e lacked
    by false e = two area root has e

pub gained_in : (passes : AreaId → Bool) (router : RouterId) (area : AreaId) (old new : TreeSet) → passes area ≡ true
    → GainsOnly (eq_by_cmp area_cmp area) router old new → GainsOnly passes router old new
gained_in passes router area old new is only other root has lacked =
    let gained = only other root has lacked in
    (gained.0, subst (λ (a : AreaId). passes a ≡ true) (area_exact area other ((Equal-is (area_cmp area other)).0 gained.1)) is)
