-- Names with one more.
use Rattle.std.proofs.Common.{◌≡◌, ℕ, Bool, true, false, cond, eqb, List, [], ◌∷◌, ◌++◌, Option, Some, None, is_some, refl, sym, ap, ◌∙◌}
use Rattle.std.specs.Prelude.{bytes_eq, option_map}
use Rattle.std.specs.List.{find}
use Rattle.std.specs.Option.{option_or}
use Rattle.std.specs.Ordering.{is_eq, nat_cmp}
use Rattle.std.specs.Cmp.{unsigned_ties}
use Rattle.std.proofs.lemmas.Bool.{eqb-true}
use Rattle.std.proofs.lemmas.List.Folds.{find-append}
use Rattle.std.proofs.lemmas.Slice.Eq.{bytes_eq-Decides}
use Rattle.text_words.specs.Words.{Word}
use Rattle.network_names.specs.Names.{Named, address_in, name_in}

or_none : {X : Type 0} (o : Option X) → option_or o None ≡ o
or_none None = refl
or_none (Some x) = refl

or_found : {X : Type 0} (o p : Option X) → is_some o ≡ true → option_or o p ≡ o
or_found None p h = absurd cc
or_found (Some x) p h = refl

map_or : {X Y : Type 0} (f : X → Y) (o p : Option X) → option_map f (option_or o p) ≡ option_or (option_map f o) (option_map f p)
map_or f None p = refl
map_or f (Some x) p = refl

map_one : {X Y : Type 0} (f : X → Y) (b : Bool) (x : X) → option_map f (cond b (Some x) None) ≡ cond b (Some (f x)) None
map_one f true x = refl
map_one f false x = refl

pub map_cond : {X Y : Type 0} (f : X → Y) (b : Bool) (x : X) (o : Option X) → option_map f (cond b (Some x) o) ≡ cond b (Some (f x)) (option_map f o)
map_cond f true x o = refl
map_cond f false x o = refl

pub some_map : {X Y : Type 0} (f : X → Y) (o : Option X) → is_some (option_map f o) ≡ is_some o
some_map f None = refl
some_map f (Some x) = refl

pub none_from : {X : Type 0} (o : Option X) → is_some o ≡ false → o ≡ None
none_from None h = refl
none_from (Some x) h = absurd cc

-- ---- a function with one more value, where it had none

module _ {K X : Type 0} (f : K → Option X) (k q : K) (x : X) where
  put_by : (b : Bool) → (b ≡ true → k ≡ q) → f k ≡ None → cond b (Some x) (f q) ≡ option_or (f q) (cond b (Some x) None)
  put_by true same absent = ap (λ (o : Option X). option_or o (Some x)) (sym (sym (ap f (same refl)) ∙ absent))
  put_by false same absent = sym (or_none (f q))

  kept_by : (b : Bool) → (b ≡ true → k ≡ q) → is_some (f k) ≡ true → f q ≡ option_or (f q) (cond b (Some x) None)
  kept_by true same there = sym (or_found (f q) (Some x) (ap (λ (o : Option X). is_some o) (sym (ap f (same refl))) ∙ there))
  kept_by false same there = sym (or_none (f q))

-- ---- addresses of names

module _ (all : List Named) (name : Word) (address : ℕ) where
  pub one_more_address : (word : Word) → address_in (all ++ (name, address) ∷ []) word ≡ option_or (address_in all word) (cond (bytes_eq name word) (Some address) None)
  one_more_address word =
      ap (option_map (λ (named : Named). named.1)) (find-append (λ (named : Named). bytes_eq named.0 word) all ((name, address) ∷ []))
      ∙ map_or (λ (named : Named). named.1) (find (λ (named : Named). bytes_eq named.0 word) all) (cond (bytes_eq name word) (Some (name, address)) None)
      ∙ ap (option_or (address_in all word)) (map_one (λ (named : Named). named.1) (bytes_eq name word) (name, address))

  pub address_added : (old new : Word → Option ℕ) → ((word : Word) → old word ≡ address_in all word) → address_in all name ≡ None
      → ((word : Word) → new word ≡ cond (bytes_eq name word) (Some address) (old word))
      → (word : Word) → new word ≡ address_in (all ++ (name, address) ∷ []) word
  address_added old new before absent after word =
      after word
      ∙ ap (cond (bytes_eq name word) (Some address)) (before word)
      ∙ put_by (address_in all) name word address (bytes_eq name word) (λ h. (bytes_eq-Decides name word).0 h) absent
      ∙ sym (one_more_address word)

  -- ---- names of routers

  one_more_name : (router : ℕ) → name_in (all ++ (name, address) ∷ []) router ≡ option_or (name_in all router) (cond (eqb address router) (Some name) None)
  one_more_name router =
      ap (option_map (λ (named : Named). named.0)) (find-append (λ (named : Named). eqb named.1 router) all ((name, address) ∷ []))
      ∙ map_or (λ (named : Named). named.0) (find (λ (named : Named). eqb named.1 router) all) (cond (eqb address router) (Some (name, address)) None)
      ∙ ap (option_or (name_in all router)) (map_one (λ (named : Named). named.0) (eqb address router) (name, address))

  pub name_kept : is_some (name_in all address) ≡ true → (router : ℕ) → name_in all router ≡ name_in (all ++ (name, address) ∷ []) router
  name_kept there router =
      kept_by (name_in all) address router name (eqb address router) (λ h. eqb-true address router h) there
      ∙ sym (one_more_name router)

  pub name_added : (old new : ℕ → Option Word) → ((router : ℕ) → old router ≡ name_in all router) → name_in all address ≡ None
      → ((router : ℕ) → new router ≡ cond (is_eq (nat_cmp address router)) (Some name) (old router))
      → (router : ℕ) → new router ≡ name_in (all ++ (name, address) ∷ []) router
  name_added old new before absent after router =
      after router
      ∙ ap (λ (b : Bool). cond b (Some name) (old router)) (sym (unsigned_ties address router))
      ∙ ap (cond (eqb address router) (Some name)) (before router)
      ∙ put_by (name_in all) address router name (eqb address router) (λ h. eqb-true address router h) absent
      ∙ sym (one_more_name router)
