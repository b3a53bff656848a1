-- Sections that are written one after another.
use Rattle.std.proofs.Common.{◌≡◌, ℕ, ◌<◌, ◌⊎◌, inl, inr, true, false, refl, sym, ◌∙◌, ap, List, [], ◌∷◌, ◌++◌, append_assoc, length, get_or, map, arith}
use Rattle.std.specs.List.{flat_map, list_any}
use Rattle.std.proofs.lemmas.List.{append-nil, get_or-map, length-map, map-append}
use Rattle.std.proofs.lemmas.List.Concat.{flat_map-append}
use Rattle.std.proofs.lemmas.List.Folds.{list_any-append, list_any-from_Any}
use Rattle.lsa_instances.specs.declared.place.Scope.{Scope}
use Rattle.lsdb.specs.Lists.{SectionLsas}
use Rattle.lsdb.specs.Text.{section_text}
use Rattle.lsdb_merge.specs.declared.fault.JoinFault.{JoinFault}
use Rattle.lsdb_merge.specs.declared.fault.JoinFault.TheVariants.{OutOfMemory, TooManyLsas}
use Rattle.lsdb_merge.specs.Limits.{is_overfull}

module _ (to : Scope → SectionLsas) where
  pub record AreWritten (scopes : List Scope) (start out : List ℕ) : Type 0 where
    pub written : out ≡ start ++ flat_map section_text (map to scopes)
    pub few : list_any is_overfull (map to scopes) ≡ false

  more : (scopes : List Scope) (scope : Scope) → map to (scopes ++ scope ∷ []) ≡ map to scopes ++ to scope ∷ []
  more scopes scope = map-append to scopes (scope ∷ [])

  pub written_more : (scopes : List Scope) (scope : Scope) (start old new : List ℕ) → new ≡ old ++ section_text (to scope)
      → is_overfull (to scope) ≡ false → AreWritten scopes start old → AreWritten (scopes ++ scope ∷ []) start new
  written_more scopes scope start old new pushed few h =
      let front = flat_map section_text (map to scopes) in
      let piece = section_text (to scope) in
      let text : flat_map section_text (map to (scopes ++ scope ∷ [])) ≡ front ++ piece =
      ap (flat_map section_text) (more scopes scope) ∙ flat_map-append section_text (map to scopes) (to scope ∷ [])
      ∙ ap (λ (o : List ℕ). front ++ o) (append-nil piece) in
      record {
        written = pushed ∙ ap (λ (o : List ℕ). o ++ piece) h.written ∙ append_assoc start front piece ∙ ap (λ (o : List ℕ). start ++ o) (sym text);
        few =
            ap (list_any is_overfull) (more scopes scope) ∙ list_any-append is_overfull (map to scopes) (to scope ∷ [])
            ∙ rw (h.few, few) refl;
      }

  -- a section that is overfull is one of all sections
  pub overfull_at : (scopes : List Scope) (i : ℕ) (d : Scope) (fault : JoinFault) → i < length scopes
      → (fault ≡ OutOfMemory) ⊎ ((fault ≡ TooManyLsas) × (is_overfull (to (get_or scopes i d)) ≡ true))
      → (fault ≡ OutOfMemory) ⊎ ((fault ≡ TooManyLsas) × (list_any is_overfull (map to scopes) ≡ true))
  overfull_at scopes i d fault l h =
      elim h as (λ _. (fault ≡ OutOfMemory) ⊎ ((fault ≡ TooManyLsas) × (list_any is_overfull (map to scopes) ≡ true))) [
        | inl m ↦ inl m
        | inr t ↦
            let e : get_or (map to scopes) i (to (get_or scopes i d)) ≡ to (get_or scopes i d) = get_or-map to scopes i d (to (get_or scopes i d)) l in
            inr (
              t.0,
              list_any-from_Any is_overfull (map to scopes)
                  (i, to (get_or scopes i d), omega (arith, l, length-map scopes to), e, t.1),
            )
      ]
