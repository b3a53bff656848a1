-- The sessions of branches when one of them goes on.
use Rattle.std.proofs.Common.{◌≡◌, ℕ, List, Bool, true, false, eqb, cond, Option, None, Some, Result, Ok, Err, refl, sym, ap, subst, ◌∙◌}
use Rattle.std.proofs.Common.{zero, suc, true≢false}
use Rattle.std.specs.Prelude.{◌||◌, is_some, IfSome}
use Rattle.std.specs.Map.{lookup}
use Rattle.std.specs.Ordering.{nat_cmp, eq_by_cmp}
use Rattle.std.specs.Result.{OnOk, OnErr}
use Rattle.std.proofs.Math.Dec.{eqb-zero-suc}
use Rattle.std.proofs.lemmas.Bool.{eqb-true}
use Rattle.lsdb.specs.Lists.{Lists}
use Rattle.edit_script.specs.declared.command.Command.{Command}
use Rattle.edit_history.specs.Session.{Session, start}
use Rattle.branches.specs.Branches.{all_begin, resumed, Named, sessions_of, has_planner, with_session, session_or_begin, HaveOneBase}
use Rattle.branches.specs.Replies.{Said, reply_to, after}
use Rattle.branches.proofs.KeptBase.{after_base}
use Rattle.branches.proofs.SessionLemmas.{with_own}

-- ---- branches at their beginning

either_way : (s : Session) (b : Bool) → cond b s s ≡ s
either_way s true = refl
either_way s false = refl

-- a session without edits is at its beginning
pub resumed_at_start : (base : Lists) → resumed (start base) ≡ all_begin base
resumed_at_start base = λ i branch. either_way (start base) (eqb branch 0) i

-- ---- one branch goes on

abbrev pub the_named : Session → List (ℕ × Session) → Named
the_named first others = record { first = first; others = others }

-- the session with a number in a list of named branches
abbrev pub found : List (ℕ × Session) → ℕ → Option Session
found es branch = lookup (eq_by_cmp nat_cmp branch) es

-- branch 0 went on
first_at : (named : Named) (t : Session) (o : Option Session) (branch : ℕ) (z : Bool) → eqb branch 0 ≡ z → t.base ≡ named.first.base
    → cond z t (session_or_begin t.base o) ≡ cond (eqb 0 branch) t (cond z named.first (session_or_begin named.first.base o))
first_at named t o branch true e same = rw (eqb-true branch 0 e) refl
first_at named t o zero false e same = absurd cc
first_at named t o (suc branch) false e same = rw (eqb-zero-suc branch) (ap (λ base. session_or_begin base o) same)

first_went : (named : Named) (t : Session) → t.base ≡ named.first.base
    → sessions_of (record { first = t; others = named.others }) ≡ with_session 0 t (sessions_of named)
first_went named t same = λ i branch. first_at named t (found named.others branch) branch (eqb branch 0) refl same i

pub first_goes_on : (named : Named) (branch : ℕ) (t : Session) (c : Command) → branch ≡ 0 → t ≡ after named.first c
    → sessions_of (record { first = t; others = named.others }) ≡ with_session branch (after (sessions_of named branch) c) (sessions_of named)
first_goes_on named branch t c zeroth is =
    first_went named t (ap (λ (s : Session). s.base) is ∙ after_base named.first c)
    ∙ ap (λ (s : Session). with_session 0 s (sessions_of named)) is
    ∙ ap (λ k. with_session k (after (sessions_of named k) c) (sessions_of named)) (sym zeroth)

pub first_base : (named : Named) (t : Session) → t.base ≡ named.first.base → HaveOneBase named → HaveOneBase (record { first = t; others = named.others })
first_base named t same one branch = subst (λ base. IfSome (found named.others branch) (λ s. s.base ≡ base)) (sym same) (one branch)

-- another branch went on
pub record GoesOn (old new : List (ℕ × Session)) (branch : ℕ) (t : Session) : Type 0 where
  pub at : found new branch ≡ Some t
  pub others : (other : ℕ) → eqb branch other ≡ false → found new other ≡ found old other

other_at : (named : Named) (new : List (ℕ × Session)) (branch : ℕ) (t : Session) → eqb branch 0 ≡ false → GoesOn named.others new branch t
    → (other : ℕ) (same : Bool) → eqb branch other ≡ same
    → sessions_of (record { first = named.first; others = new }) other ≡ cond same t (sessions_of named other)
other_at named new branch t not_first went other true e =
    ap (sessions_of (record { first = named.first; others = new })) (sym (eqb-true branch other e))
    ∙ rw (not_first, went.at) refl
other_at named new branch t not_first went other false e =
    ap (λ o. cond (eqb other 0) named.first (session_or_begin named.first.base o)) (went.others other e)

pub other_goes_on : (named : Named) (new : List (ℕ × Session)) (branch : ℕ) (t : Session) → eqb branch 0 ≡ false → GoesOn named.others new branch t
    → sessions_of (record { first = named.first; others = new }) ≡ with_session branch t (sessions_of named)
other_goes_on named new branch t not_first went = λ i other. other_at named new branch t not_first went other (eqb branch other) refl i

base_at : (named : Named) (new : List (ℕ × Session)) (branch : ℕ) (t : Session)
    → t.base ≡ named.first.base → GoesOn named.others new branch t → HaveOneBase named
    → (other : ℕ) (same : Bool) → eqb branch other ≡ same → IfSome (found new other) (λ s. s.base ≡ named.first.base)
base_at named new branch t is went one other true e = rw (sym (eqb-true branch other e), went.at) is
base_at named new branch t is went one other false e = rw (went.others other e) (one other)

pub one_base : (named : Named) (new : List (ℕ × Session)) (branch : ℕ) (t : Session)
    → t.base ≡ named.first.base → GoesOn named.others new branch t → HaveOneBase named
    → HaveOneBase (record { first = named.first; others = new })
one_base named new branch t is went one other = base_at named new branch t is went one other (eqb branch other) refl

-- ---- branches that have a planner

or_some : (z : Bool) (o : Option Session) (s : Session) → o ≡ Some s → (z || is_some o) ≡ true
or_some true o s at = refl
or_some false o s at = ap is_some at

-- one that goes on in the list has one
pub goes_on_named : (first : Session) (es : List (ℕ × Session)) (branch : ℕ) (s : Session) → found es branch ≡ Some s
    → has_planner (the_named first es) branch ≡ true
goes_on_named first es branch s at = or_some (eqb branch 0) (found es branch) s at

-- branch 0 has one
pub not_first : (named : Named) (branch : ℕ) → has_planner named branch ≡ false → eqb branch 0 ≡ false
not_first named branch none = or_false (eqb branch 0) (is_some (found named.others branch)) none where
  or_false : (z b : Bool) → (z || b) ≡ false → z ≡ false
  or_false true b h = h
  or_false false b h = refl

-- ---- a branch that is at its beginning

begins_at : (first : Session) (o : Option Session) (z : Bool) → z ≡ false → (z || is_some o) ≡ false
    → cond z first (session_or_begin first.base o) ≡ start first.base
begins_at first o true not_first none = absurd (true≢false not_first)
begins_at first None false not_first none = refl
begins_at first (Some s) false not_first none = absurd (true≢false none)

begins : (named : Named) (branch : ℕ) → eqb branch 0 ≡ false → has_planner named branch ≡ false → sessions_of named branch ≡ start named.first.base
begins named branch not_first none = begins_at named.first (found named.others branch) (eqb branch 0) not_first none

-- the reply to a command there, and that the branch stays there
pub begins_reply : (named : Named) (branch : ℕ) (c : Command) (said : Said) → eqb branch 0 ≡ false → has_planner named branch ≡ false
    → said ≡ reply_to (start named.first.base) c → said ≡ reply_to (sessions_of named branch) c
begins_reply named branch c said not_first none is = is ∙ ap (λ (s : Session). reply_to s c) (sym (begins named branch not_first none))

pub begins_stays : (named : Named) (branch : ℕ) (c : Command) → eqb branch 0 ≡ false → has_planner named branch ≡ false
    → after (start named.first.base) c ≡ start named.first.base
    → sessions_of named ≡ with_session branch (after (sessions_of named branch) c) (sessions_of named)
begins_stays named branch c not_first none stays =
    let at = begins named branch not_first none in
    with_own branch (sessions_of named)
    ∙ ap (λ (s : Session). with_session branch s (sessions_of named)) (at ∙ sym stays ∙ ap (λ (s : Session). after s c) (sym at))

-- beginning it, without a command, leaves all sessions
pub begins_alone : (named new : Named) (branch : ℕ) (s : Session) → eqb branch 0 ≡ false → has_planner named branch ≡ false
    → s ≡ start named.first.base → sessions_of new ≡ with_session branch s (sessions_of named)
    → sessions_of new ≡ sessions_of named
begins_alone named new branch s not_first none at went =
    went ∙ ap (λ (t : Session). with_session branch t (sessions_of named)) (at ∙ sym (begins named branch not_first none))
    ∙ sym (with_own branch (sessions_of named))

-- what follows from the properties of a success, or of an error
pub on_ok : {T E P Q : Type 0} (r : Result T E) → (P → Q) → OnOk r P → OnOk r Q
on_ok (Ok v) f p = f p
on_ok (Err e) f p = tt

pub on_err : {T E P Q : Type 0} (r : Result T E) → (P → Q) → OnErr r P → OnErr r Q
on_err (Ok v) f p = tt
on_err (Err e) f p = f p
