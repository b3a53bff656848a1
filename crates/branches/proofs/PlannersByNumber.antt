-- Planners in a map, by their sessions.
use Rattle.std.proofs.Common.{◌≡◌, ◌≢◌, ℕ, List, [], ◌∷◌, Bool, true, false, eqb, cond, Option, None, Some, refl, sym, ap, subst, ◌∙◌}
use Rattle.std.proofs.Common.{true≢false}
use Rattle.std.specs.Prelude.{◌||◌, is_some, IfSome, IsSome}
use Rattle.std.specs.Map.{lookup, set_value}
use Rattle.std.specs.BTreeMap.{BTreeMap, Updates, WritesThrough, is_at}
use Rattle.std.specs.Cmp.{unsigned_tied}
use Rattle.std.specs.Option.{option_map}
use Rattle.std.proofs.lemmas.Map.Made.{lookup-map_values}
use Rattle.std.proofs.lemmas.Map.Steps.{set_value_same}
use Rattle.std.specs.Ordering.{nat_cmp, eq_by_cmp}
use Rattle.std.proofs.lemmas.Bool.{ne_eqb}
use Rattle.lsdb.specs.Lists.{Lists}
use Rattle.edit_script.specs.declared.command.Command.{Command}
use Rattle.edit_history.specs.Session.{Session, start}
use Rattle.recalculate.specs.declared.counts.Info.{Info}
use Rattle.recalculate.specs.Counts.{info_of}
use Rattle.recalculate.specs.Planning.{PlannerValue}
use Rattle.branches.specs.Branches.{Named, sessions_by, sessions_of, named_by, has_planner, with_session, HaveOneBase}
use Rattle.branches.specs.Replies.{after}
use Rattle.branches.proofs.BranchSessions.{first_base, found, GoesOn, one_base, other_goes_on, the_named}

abbrev its_session : PlannerValue → Session
its_session p = p.session

-- the planner with a number
abbrev pub planner_at : List (ℕ × PlannerValue) → ℕ → Option PlannerValue
planner_at ps branch = lookup (eq_by_cmp nat_cmp branch) ps

pub shown : (ps : List (ℕ × PlannerValue)) (branch : ℕ) → found (sessions_by ps) branch ≡ option_map its_session (planner_at ps branch)
shown ps branch = lookup-map_values its_session (eq_by_cmp nat_cmp branch) ps

shown_some : (ps : List (ℕ × PlannerValue)) (branch : ℕ) (p : PlannerValue) → Some p ≡ planner_at ps branch → Some p.session ≡ found (sessions_by ps) branch
shown_some ps branch p was = ap (option_map its_session) was ∙ sym (shown ps branch)

-- the map after an insertion, or after a branch in it went on
pub inserted : (old new : BTreeMap ℕ PlannerValue) (branch : ℕ) (p : PlannerValue) → Updates nat_cmp old new branch (Some p)
    → GoesOn (sessions_by old.entries) (sessions_by new.entries) branch p.session
inserted old new branch p updates = record {
  at = shown new.entries branch ∙ ap (option_map its_session) updates.1;
  others = λ other e. shown new.entries other ∙ ap (option_map its_session) (updates.2 other (unsigned_tied branch other ∙ e)) ∙ sym (shown old.entries other);
}

written : (old new : BTreeMap ℕ PlannerValue) (branch : ℕ) (p q : PlannerValue)
    → Some p ≡ planner_at old.entries branch → WritesThrough nat_cmp (nat_cmp branch) old q new
    → GoesOn (sessions_by old.entries) (sessions_by new.entries) branch q.session
written old new branch p q was writes = inserted old new branch q (writes.3 (subst (λ o. IsSome o) was refl))

-- the session of a branch other than 0, where there is a planner for it and where there is none
named_session : (first : PlannerValue) (ps : List (ℕ × PlannerValue)) (branch : ℕ) (p : PlannerValue)
    → eqb branch 0 ≡ false → Some p ≡ planner_at ps branch
    → sessions_of (named_by first ps) branch ≡ p.session
named_session first ps branch p not_first was = rw (not_first, shown ps branch, sym was) refl

first_session : (first : PlannerValue) (ps : List (ℕ × PlannerValue)) (branch : ℕ) → branch ≡ 0 → sessions_of (named_by first ps) branch ≡ first.session
first_session first ps branch zeroth = rw zeroth refl

unnamed_session : (first : PlannerValue) (ps : List (ℕ × PlannerValue)) (branch : ℕ) → eqb branch 0 ≡ false → None ≡ planner_at ps branch
    → sessions_of (named_by first ps) branch ≡ start first.session.base
unnamed_session first ps branch not_first none = rw (not_first, shown ps branch, sym none) refl

unnamed : (first : PlannerValue) (ps : List (ℕ × PlannerValue)) (branch : ℕ) → eqb branch 0 ≡ false
    → None ≡ planner_at ps branch → has_planner (named_by first ps) branch ≡ false
unnamed first ps branch not_first none = rw (not_first, shown ps branch, sym none) refl

pub not_named : (first : PlannerValue) (old new : BTreeMap ℕ PlannerValue) (branch : ℕ) → new ≡ old → branch ≢ 0
    → None ≡ planner_at old.entries branch → has_planner (named_by first new.entries) branch ≡ false
not_named first old new branch same other none =
    subst (λ (m : BTreeMap ℕ PlannerValue). has_planner (named_by first m.entries) branch ≡ false) (sym same)
    (unnamed first old.entries branch (ne_eqb branch 0 other) none)

-- a branch without one has none
pub absent : (first : PlannerValue) (ps : List (ℕ × PlannerValue)) (branch : ℕ) (named : Named) → named_by first ps ≡ named → branch ≢ 0
    → None ≡ planner_at ps branch → has_planner named branch ≡ true → ⊥
absent first ps branch named shows other none has =
    true≢false (sym has ∙ ap (λ (n : Named). has_planner n branch) (sym shows) ∙ unnamed first ps branch (ne_eqb branch 0 other) none)

is_some-map : (o : Option PlannerValue) → is_some (option_map its_session o) ≡ is_some o
is_some-map None = refl
is_some-map (Some p) = refl

-- a branch has one where it is in the map
pub has_by_map : (first : PlannerValue) (ps : List (ℕ × PlannerValue)) (branch : ℕ)
    → has_planner (named_by first ps) branch ≡ (eqb branch 0 || is_some (planner_at ps branch))
has_by_map first ps branch =
    ap (λ (b : Bool). eqb branch 0 || b) (ap is_some (shown ps branch) ∙ is_some-map (planner_at ps branch))

-- what the planners show of a branch
module _ (first : PlannerValue) (ps : List (ℕ × PlannerValue)) (branch : ℕ) (named : Named) (shows : named_by first ps ≡ named) where
  pub session_of_first : branch ≡ 0 → first.session ≡ sessions_of named branch
  session_of_first zeroth = sym (first_session first ps branch zeroth) ∙ ap (λ (n : Named). sessions_of n branch) shows

  pub session_of_named : (p : PlannerValue) → branch ≢ 0 → Some p ≡ planner_at ps branch → p.session ≡ sessions_of named branch
  session_of_named p other was = sym (named_session first ps branch p (ne_eqb branch 0 other) was) ∙ ap (λ (n : Named). sessions_of n branch) shows

  pub session_of_unnamed : branch ≢ 0 → None ≡ planner_at ps branch → start named.first.base ≡ sessions_of named branch
  session_of_unnamed other none =
      ap (λ (n : Named). start n.first.base) (sym shows)
      ∙ sym (unnamed_session first ps branch (ne_eqb branch 0 other) none) ∙ ap (λ (n : Named). sessions_of n branch) shows

base_of : (named : Named) (branch : ℕ) (s : Session) → Some s ≡ found named.others branch → HaveOneBase named → s.base ≡ named.first.base
base_of named branch s was one = subst (λ o. IfSome o (λ (x : Session). x.base ≡ named.first.base)) (sym was) (one branch)

-- a planner went on from the base that it had
pub still_one_base : (first : PlannerValue) (old new : BTreeMap ℕ PlannerValue) (branch : ℕ) (p q : PlannerValue)
    → Some p ≡ planner_at old.entries branch → WritesThrough nat_cmp (nat_cmp branch) old q new → q.session.base ≡ p.session.base
    → HaveOneBase (named_by first old.entries) → HaveOneBase (named_by first new.entries)
still_one_base first old new branch p q was writes same one =
    let named : Named = named_by first old.entries in
    one_base named (sessions_by new.entries) branch q.session (same ∙ base_of named branch p.session (shown_some old.entries branch p was) one)
    (written old new branch p q was writes) one

pub written_on : (first : PlannerValue) (old new : BTreeMap ℕ PlannerValue) (branch : ℕ) (p q : PlannerValue) (c : Command) → eqb branch 0 ≡ false
    → Some p ≡ planner_at old.entries branch → WritesThrough nat_cmp (nat_cmp branch) old q new → q.session ≡ after p.session c
    → sessions_of (named_by first new.entries) ≡ with_session branch
    (after (sessions_of (named_by first old.entries) branch) c) (sessions_of (named_by first old.entries))
written_on first old new branch p q c not_first was writes is =
    let named : Named = named_by first old.entries in
    other_goes_on named (sessions_by new.entries) branch q.session not_first (written old new branch p q was writes)
    ∙ ap (λ (u : Session). with_session branch u (sessions_of named))
    (is ∙ ap (λ (u : Session). after u c) (sym (named_session first old.entries branch p not_first was)))

-- a planner that was written back with its session
set_at : (k : ℕ) (v q : PlannerValue) (ps : List (ℕ × PlannerValue)) (news : List (ℕ × PlannerValue))
    (sets : List (ℕ × Session)) (here : Bool) → sessions_by news ≡ sets
    → sessions_by (cond here ((k, q) ∷ ps) ((k, v) ∷ news)) ≡ cond here ((k, q.session) ∷ sessions_by ps) ((k, v.session) ∷ sets)
set_at k v q ps news sets true rest = refl
set_at k v q ps news sets false rest = ap (λ (l : List (ℕ × Session)). (k, v.session) ∷ l) rest

sessions_by-set_value : (test : ℕ → Bool) (ps : List (ℕ × PlannerValue)) (q : PlannerValue)
    → sessions_by (set_value test ps q) ≡ set_value test (sessions_by ps) q.session
sessions_by-set_value test [] q = refl
sessions_by-set_value test (p ∷ ps) q = set_at p.0 p.1 q ps (set_value test ps q)
    (set_value test (sessions_by ps) q.session) (test p.0) (sessions_by-set_value test ps q)

pub written_same : (old new : BTreeMap ℕ PlannerValue) (branch : ℕ) (p q : PlannerValue) → Some p ≡ planner_at old.entries branch
    → WritesThrough nat_cmp (nat_cmp branch) old q new → q.session ≡ p.session
    → sessions_by new.entries ≡ sessions_by old.entries
written_same old new branch p q was writes same =
    ap sessions_by writes.0 ∙ sessions_by-set_value (is_at (nat_cmp branch)) old.entries q
    ∙ ap (set_value (is_at (nat_cmp branch)) (sessions_by old.entries)) same
    ∙ set_value_same (is_at (nat_cmp branch)) (sessions_by old.entries) p.session (sym (shown_some old.entries branch p was))

-- ---- what holds of all planners: they have one base, and these are the counts at its beginning

abbrev Held : PlannerValue → List (ℕ × PlannerValue) → Info → Type 0
Held first others beginning = HaveOneBase (named_by first others) × (beginning ≡ info_of (start first.session.base))

-- it stays where one goes on from the base that it had: that of branch 0, or another
pub first_holds : (p q : PlannerValue) (others : List (ℕ × PlannerValue)) (beginning : Info) → q.session.base ≡ p.session.base
    → Held p others beginning → Held q others beginning
first_holds p q others beginning same held = (
  first_base (named_by p others) q.session same held.0,
  held.1 ∙ ap (λ (base : Lists). info_of (start base)) (sym same),
)

pub other_holds : (first : PlannerValue) (old new : BTreeMap ℕ PlannerValue) (branch : ℕ) (p q : PlannerValue) (beginning : Info)
    → Some p ≡ planner_at old.entries branch → WritesThrough nat_cmp (nat_cmp branch) old q new → q.session.base ≡ p.session.base
    → Held first old.entries beginning → Held first new.entries beginning
other_holds first old new branch p q beginning was writes same held = (still_one_base first old new branch p q was writes same held.0, held.1)

-- one that has the session that it had leaves that, and all sessions
module _ (p q : PlannerValue) (kept : q.session ≡ p.session) where
  pub first_held : (others : List (ℕ × PlannerValue)) (beginning : Info) → Held p others beginning → Held q others beginning
  first_held others beginning = first_holds p q others beginning (ap (λ (s : Session). s.base) kept)

  pub first_stays : (others : List (ℕ × PlannerValue)) (named : Named) → named_by p others ≡ named → sessions_of (named_by q others) ≡ sessions_of named
  first_stays others named shows = ap (λ (s : Session). sessions_of (the_named s (sessions_by others))) kept ∙ ap sessions_of shows

  pub other_held : (first : PlannerValue) (old new : BTreeMap ℕ PlannerValue) (branch : ℕ) (beginning : Info)
      → Some p ≡ planner_at old.entries branch → WritesThrough nat_cmp (nat_cmp branch) old q new
      → Held first old.entries beginning → Held first new.entries beginning
  other_held first old new branch beginning was writes =
      other_holds first old new branch p q beginning was writes (ap (λ (s : Session). s.base) kept)

  pub other_stays : (first : PlannerValue) (old new : BTreeMap ℕ PlannerValue) (branch : ℕ) (named : Named) → named_by first old.entries ≡ named
      → Some p ≡ planner_at old.entries branch → WritesThrough nat_cmp (nat_cmp branch) old q new
      → sessions_of (named_by first new.entries) ≡ sessions_of named
  other_stays first old new branch named shows was writes =
      ap (λ es. sessions_of (the_named first.session es)) (written_same old new branch p q was writes kept) ∙ ap sessions_of shows
