-- The sections are a database, where the limits hold.
use Rattle.std.proofs.Common.{◌≡◌, ◌≤◌, ◌<◌, false, refl, sym, ◌∙◌, ap, subst, List, [], ◌∷◌, length, map, Some, Result, Ok, Err, arith}
use Rattle.std.specs.Prelude.{All, IfOk}
use Rattle.std.specs.List.{list_any}
use Rattle.std.proofs.lemmas.Bool.{le-ltb, lt-ltb}
use Rattle.std.proofs.lemmas.List.{length-map}
use Rattle.std.proofs.lemmas.List.Elements.{All-map, All-weaker}
use Rattle.lsa_codec.specs.Accepted.{IsAccepted}
use Rattle.lsa_instances.specs.declared.place.Scope.{Scope}
use Rattle.lsa_instances.specs.declared.observation.Observation.{Observation}
use Rattle.lsa_instances.specs.declared.keeping.FlushedLsas.{FlushedLsas}
use Rattle.lsa_instances.specs.Newest.{AreNewest}
use Rattle.lsdb.proofs.ListLemmas.{all_map}
use Rattle.lsdb.specs.Limits.{longest_dump}
use Rattle.lsdb.specs.Lists.{AreHeads, IsDatabase, IsSection, Lists, heads_of, size}
use Rattle.lsdb_merge.proofs.Heads.{are_heads, none_passes, sound_section}
use Rattle.lsa_instances.specs.declared.area.AreaReport.{AreaReport}
use Rattle.lsdb_merge.specs.declared.fault.JoinFault.TheVariants.{TooLong}
use Rattle.lsdb_merge.specs.Joining.{AreScopes, head, section}
use Rattle.lsdb_merge.specs.Limits.{fault_of, is_misplaced, is_overfull}
use Rattle.lsdb_merge.specs.steps.Scopes.{HaveRisingKeys, IsWide}

pub if_both : {X Y : Type 0} (r : Result X Y) (P Q S : X → Type 0) → ((x : X) → P x → Q x → S x) → IfOk r P → IfOk r Q → IfOk r S
if_both (Ok x) P Q S f p q = f x p q
if_both (Err e) P Q S f p q = tt

module _ {A : Type 0} (areas : List AreaReport) (newest : List (Observation A)) (scopes : List Scope) where
  heads_are : (some : List Scope) → heads_of (map (section areas newest) some) ≡ map (head areas) some
  heads_are [] = refl
  heads_are (s ∷ some) = ap (λ hs. head areas s ∷ hs) (heads_are some)

  abbrev Db : Lists
  Db = map (section areas newest) scopes

  pub is_database : AreScopes areas newest scopes → All IsWide scopes → HaveRisingKeys newest → All (λ x. IsAccepted x.lsa) newest
      → list_any is_misplaced newest ≡ false → length scopes ≤ 65 → list_any is_overfull Db ≡ false → size Db ≤ longest_dump
      → IsDatabase Db
  is_database s wide rising accepted placed few full small =
      let room = all_map (λ sec. is_overfull sec ≡ false) (section areas newest) scopes (none_passes is_overfull Db full) in
      record {
        heads = subst (λ hs. AreHeads hs) (sym (heads_are scopes)) (are_heads areas scopes few wide s.order s.as_there);
        sections =
            All-map IsSection (section areas newest) scopes
            (All-weaker (λ scope. is_overfull (section areas newest scope) ≡ false) (λ scope. IsSection (section areas newest scope))
            (sound_section areas newest accepted (none_passes is_misplaced newest placed) rising) scopes room);
        small = small;
      }

  pub too_long : list_any is_misplaced newest ≡ false → length scopes ≤ 65 → list_any is_overfull Db ≡ false → longest_dump < size Db
      → fault_of newest Db ≡ Some TooLong
  too_long placed few full long =
      rw (placed, le-ltb 65 (length Db) (omega (arith, few, length-map scopes (section areas newest))), full, lt-ltb longest_dump (size Db) long) refl

-- what was found, seen through references
pub joining_of : {A : Type 0} (flushed : FlushedLsas) (reported : List (Observation A)) (areas : List AreaReport) (newest a b : List (Observation A)) (scopes t : List Scope)
    → a ≡ newest → b ≡ newest → t ≡ scopes → AreNewest flushed reported newest → AreScopes areas a scopes
    → AreNewest flushed reported b × AreScopes areas b t
joining_of {A} flushed reported areas newest a b scopes t e f g n s =
    let P : List (Observation A) → Type 0 = λ xs. AreNewest flushed reported xs in
    let Q : List (Observation A) → Type 0 = λ xs. AreScopes areas xs scopes in
    let R : List Scope → Type 0 = λ ss. AreScopes areas b ss in
    (subst P (sym f) n, subst R (sym g) (subst Q (e ∙ sym f) s))
