-- The LSAs of a section: what is read is spelled so, and what is spelled so is read.
use Rattle.std.proofs.Common.{◌≡◌, ◌≢◌, ℕ, zero, suc, ◌+◌, ◌^◌, ◌<◌, ◌≤◌, Bool, true, false, cond, ltb, List, [], ◌∷◌, ◌++◌, length, map, Option}
use Rattle.std.proofs.Common.{Result, Ok, Err, refl, sym, ap, subst, ◌∙◌, append_assoc, arith}
use Rattle.std.specs.Prelude.{All, AllPairs}
use Rattle.std.specs.List.{concat, list_any}
use Rattle.std.specs.Int.{w16, to_be_bytes}
use Rattle.std.proofs.lemmas.Bool.{ltb-false, le-ltb, or_parts}
use Rattle.std.proofs.lemmas.List.{append-nil, drop_at, length-append, length-map, map_push}
use Rattle.std.proofs.lemmas.List.Elements.{All-nil, All-cons, All-head, All-tail, All-push}
use Rattle.std.proofs.lemmas.List.Quantifiers.{all_pairs_push}
use Rattle.lsa_codec.specs.declared.fault.LsaFault.{LsaFault}
use Rattle.lsa_codec.specs.declared.key.Key.{Key}
use Rattle.lsa_codec.specs.Key.{key_of}
use Rattle.lsa_codec.specs.Fields.{length_of}
use Rattle.lsa_codec.specs.Accepted.{IsAccepted}
use Rattle.lsa_codec.specs.Decoding.{decoded}
use Rattle.lsa_codec.proofs.LsaLemmas.{decoded_again, decoded_front}
use Rattle.lsdb.specs.declared.fault.DumpFault.{DumpFault}
use Rattle.lsdb.specs.declared.fault.DumpFaultKind.TheVariants.{WrongSection, DuplicateLsa, TooManyLsas}
use Rattle.lsdb.specs.Lists.{AreaHead, SectionLsas, IsSection, is_in_scope, limit_of, has_key}
use Rattle.lsdb.specs.Loading.{◌>>=◌, At, number_at, advanced, has_key_of, placed, lsa_at, lsas_from, counted_at, section_at}
use Rattle.lsdb.proofs.KeyLemmas.{other_key, own_key}
use Rattle.lsdb.proofs.Middle.{all_at_mid, pairs_before, map_mid}
use Rattle.lsdb.proofs.Dominated.{section_with}
use Rattle.lsdb.proofs.Written.{limit_fits}
use Rattle.lsdb.proofs.NumberLemmas.{IsBytes, IsBytes-drop, bind_ok, guard_ok, passed_ok, ok_is, done, fault_at, Takes, Takes-then, wide16, number_takes}
use Rattle.lsdb.proofs.NumberLemmas.{number_again, here}

-- ---- keys

-- no LSA has the key
key_apart : (key : Key) (xs : List (List ℕ)) → list_any (has_key key) xs ≡ false → All (λ k. k ≢ key) (map key_of xs)
key_apart key [] e = All-nil (λ k. k ≢ key)
key_apart key (x ∷ xs) e =
    let p = or_parts _ _ e in
    All-cons (λ k. k ≢ key) (key_of x) (map key_of xs)
    (λ same. let yes_it = own_key key x same in let contrary : true ≡ false = sym yes_it ∙ p.0 in absurd cc) (key_apart key xs p.1)

key_absent : (key : Key) (xs : List (List ℕ)) → All (λ k. k ≢ key) (map key_of xs) → list_any (has_key key) xs ≡ false
key_absent key [] h = refl
key_absent key (x ∷ xs) h =
    let first : has_key key x ≡ false = other_key key x (All-head (λ k. k ≢ key) (key_of x) (map key_of xs) h) in
    rw first (key_absent key xs (All-tail (λ k. k ≢ key) (key_of x) (map key_of xs) h))

-- ---- the LSAs of a section, of any number

pub record AreLsas (area : Option AreaHead) (lsas : List (List ℕ)) : Type 0 where
  pub accepted : All IsAccepted lsas
  pub scope : All (λ key. is_in_scope area key ≡ true) (map key_of lsas)
  pub distinct : AllPairs (λ a b. a ≢ b) (map key_of lsas)

no_lsas : (area : Option AreaHead) → AreLsas area []
no_lsas area = record { accepted = λ k d lt. absurd (omega arith); scope = λ k d lt. absurd (omega arith); distinct = λ i j d lt up. absurd (omega arith) }

-- the keys stay apart with that of an LSA that is new
pub apart_push : (seen : List (List ℕ)) (lsa : List ℕ) → AllPairs (λ a b. a ≢ b) (map key_of seen) → has_key_of seen lsa ≡ false
    → AllPairs (λ a b. a ≢ b) (map key_of (seen ++ lsa ∷ []))
apart_push seen lsa old new =
    subst (AllPairs (λ a b. a ≢ b)) (sym (map_push key_of seen lsa))
    (all_pairs_push (λ a b. a ≢ b) (map key_of seen) (key_of lsa) old (key_apart (key_of lsa) seen new))

lsas_push : (area : Option AreaHead) (seen : List (List ℕ)) (lsa : List ℕ) → AreLsas area seen
    → IsAccepted lsa → is_in_scope area (key_of lsa) ≡ true → has_key_of seen lsa ≡ false
    → AreLsas area (seen ++ lsa ∷ [])
lsas_push area seen lsa old accepted scope new =
    let keys = map_push key_of seen lsa in
    record {
      accepted = All-push IsAccepted seen lsa old.accepted accepted;
      scope =
          subst (All (λ key. is_in_scope area key ≡ true)) (sym keys)
          (All-push (λ key. is_in_scope area key ≡ true) (map key_of seen) (key_of lsa) old.scope scope);
      distinct = apart_push seen lsa old.distinct new;
    }

-- an LSA after others
record Middle (area : Option AreaHead) (seen : List (List ℕ)) (lsa : List ℕ) : Type 0 where
  pub accepted : IsAccepted lsa
  pub scope : is_in_scope area (key_of lsa) ≡ true
  pub new : has_key_of seen lsa ≡ false

middle : (area : Option AreaHead) (seen : List (List ℕ)) (lsa : List ℕ) (rest : List (List ℕ))
    → AreLsas area (seen ++ lsa ∷ rest) → Middle area seen lsa
middle area seen lsa rest all =
    let keys = map_mid key_of seen rest lsa in
    record {
      accepted = all_at_mid IsAccepted seen rest lsa all.accepted;
      scope =
          all_at_mid (λ key. is_in_scope area key ≡ true) (map key_of seen) (map key_of rest) (key_of lsa)
          (subst (All (λ key. is_in_scope area key ≡ true)) keys all.scope);
      new =
          key_absent (key_of lsa) seen
          (pairs_before (λ a b. a ≢ b) (map key_of seen) (map key_of rest) (key_of lsa) (subst (AllPairs (λ a b. a ≢ b)) keys all.distinct));
    }

-- ---- one LSA

record TakesLsa (area : Option AreaHead) (at : At) (lsa : List ℕ) (after : At) : Type 0 where
  pub takes : Takes at lsa after
  pub accepted : IsAccepted lsa
  pub scope : is_in_scope area (key_of lsa) ≡ true

placed_takes : (area : Option AreaHead) (at : At) (r : Result (List ℕ) LsaFault) (lsa : List ℕ) (after : At)
    → IsBytes at.rest → decoded at.rest ≡ r → placed area at r ≡ Ok (lsa, after) → TakesLsa area at lsa after
placed_takes area at (Err f) lsa after fits is e = absurd cc
placed_takes area at (Ok found) lsa after fits is e =
    let a = passed_ok (is_in_scope area (key_of found)) (fault_at at WrongSection) (Ok (found, advanced (length found) at)) (lsa, after) e in
    let both = ok_is (found, advanced (length found) at) (lsa, after) a.1 in
    let small : length_of at.rest < 65536 = omega (arith, fits 18, fits 19) in
    let front = decoded_front at.rest found small is in
    subst (λ (p : List ℕ × At). TakesLsa area at p.0 p.1) both (record {
      takes = record { parts = front.parts; rest_fits = IsBytes-drop (length found) at.rest fits; moved = refl };
      accepted = front.accepted;
      scope = a.0;
    })

lsa_takes : (area : Option AreaHead) (at : At) (lsa : List ℕ) (after : At) → IsBytes at.rest
    → lsa_at area at ≡ Ok (lsa, after) → TakesLsa area at lsa after
unfolding lsa_at
lsa_takes area at lsa after fits e = placed_takes area at (decoded at.rest) lsa after fits refl e

lsa_again : (area : Option AreaHead) (lsa : List ℕ) (o : ℕ) (rest : List ℕ) → IsAccepted lsa
    → is_in_scope area (key_of lsa) ≡ true
    → lsa_at area (here o (lsa ++ rest)) ≡ Ok (lsa, here (o + length lsa) rest)
unfolding lsa_at
lsa_again area lsa o rest accepted scope = rw (decoded_again lsa rest accepted, scope, drop_at lsa rest (length lsa) refl) refl

-- ---- LSAs one after another

-- the test of an LSA that was read, and those after it
abbrev next_lsas : Option AreaHead → ℕ → List (List ℕ) → At → List ℕ × At → Result (List (List ℕ) × At) DumpFault
next_lsas area n seen at lsa = cond (has_key_of seen lsa.0) (Err (fault_at at DuplicateLsa)) (lsas_from area n (seen ++ lsa.0 ∷ []) lsa.1)

record TakesLsas (area : Option AreaHead) (n : ℕ) (seen : List (List ℕ)) (at : At) (all : List (List ℕ)) (after : At) : Type 0 where
  pub new : List (List ℕ)
  pub all_is : all ≡ seen ++ new
  pub count : length new ≡ n
  pub takes : Takes at (concat new) after
  pub good : AreLsas area all

lsas_take : (area : Option AreaHead) (n : ℕ) (seen : List (List ℕ)) (at : At) (all : List (List ℕ)) (after : At)
    → IsBytes at.rest → AreLsas area seen → lsas_from area n seen at ≡ Ok (all, after)
    → TakesLsas area n seen at all after
unfolding lsas_from
lsas_take area zero seen at all after fits old e =
    subst (λ (p : List (List ℕ) × At). TakesLsas area 0 seen at p.0 p.1) (ok_is (seen, at) (all, after) e)
    (record { new = []; all_is = sym (append-nil seen); count = refl; takes = record { parts = refl; rest_fits = fits; moved = omega arith }; good = old })
lsas_take area (suc n) seen at all after fits old e =
    let a = bind_ok (lsa_at area at) (next_lsas area n seen at) (all, after) e in
    let lsa : List ℕ = a.0.0 in
    let b = guard_ok (has_key_of seen lsa) (fault_at at DuplicateLsa) (lsas_from area n (seen ++ lsa ∷ []) a.0.1) (all, after) a.2 in
    let one = lsa_takes area at lsa a.0.1 fits a.1 in
    let more = lsas_take area n (seen ++ lsa ∷ []) a.0.1 all after one.takes.rest_fits (lsas_push area seen lsa old one.accepted one.scope b.0) b.1 in
    record {
      new = lsa ∷ more.new;
      all_is = more.all_is ∙ append_assoc seen (lsa ∷ []) more.new;
      count = ap suc more.count;
      takes = Takes-then at lsa a.0.1 (concat more.new) after one.takes more.takes;
      good = more.good;
    }

lsas_again : (area : Option AreaHead) (lsas seen : List (List ℕ)) (o : ℕ) (rest : List ℕ)
    → AreLsas area (seen ++ lsas)
    → lsas_from area (length lsas) seen (here o (concat lsas ++ rest)) ≡ Ok (seen ++ lsas, here (o + length (concat lsas)) rest)
unfolding lsas_from
lsas_again area [] seen o rest good =
    let same : seen ≡ seen ++ [] = sym (append-nil seen) in
    let slot : o ≡ o + 0 = omega arith in
    ap (λ (x : List (List ℕ)). done (x, here o rest)) same ∙ ap (λ (k : ℕ). done (seen ++ [], here k rest)) slot
lsas_again area (lsa ∷ lsas) seen o rest good =
    let at = here o (lsa ++ (concat lsas ++ rest)) in
    let regrouped : concat (lsa ∷ lsas) ++ rest ≡ lsa ++ (concat lsas ++ rest) = append_assoc lsa (concat lsas) rest in
    let moved : (seen ++ lsa ∷ []) ++ lsas ≡ seen ++ lsa ∷ lsas = append_assoc seen (lsa ∷ []) lsas in
    let m = middle area seen lsa lsas good in
    let first = lsa_again area lsa o (concat lsas ++ rest) m.accepted m.scope in
    let others = lsas_again area lsas (seen ++ lsa ∷ []) (o + length lsa) rest (subst (AreLsas area) (sym moved) good) in
    let slot : o + length lsa + length (concat lsas) ≡ o + length (concat (lsa ∷ lsas)) = omega (arith, length-append lsa (concat lsas)) in
    ap (λ (bytes : List ℕ). lsas_from area (suc (length lsas)) seen (here o bytes)) regrouped
    ∙ ap (λ (r : Result (List ℕ × At) DumpFault). r >>= next_lsas area (length lsas) seen at) first
    ∙ ap (λ (b : Bool). cond b (Err (fault_at at DuplicateLsa))
    (lsas_from area (length lsas) (seen ++ lsa ∷ []) (here (o + length lsa) (concat lsas ++ rest)))) m.new
    ∙ others
    ∙ ap (λ (x : List (List ℕ)). done (x, here (o + length lsa + length (concat lsas)) rest)) moved
    ∙ ap (λ (k : ℕ). done (seen ++ lsa ∷ lsas, here k rest)) slot

-- ---- a section

-- the number of LSAs, and these
abbrev pub lsas_text : List (List ℕ) → List ℕ
lsas_text lsas = to_be_bytes w16 (length lsas) ++ concat lsas

pub record TakesSection (area : Option AreaHead) (at : At) (section : SectionLsas) (after : At) : Type 0 where
  pub head : area ≡ section.area
  pub takes : Takes at (lsas_text section.lsas) after
  pub good : IsSection section

-- a section of LSAs that were read
abbrev made : Option AreaHead → List (List ℕ) × At → Result (SectionLsas × At) DumpFault
made area lsas = Ok (section_with area lsas.0, lsas.1)

counted_takes : (area : Option AreaHead) (at : At) (count : ℕ × At) (lsas : List (List ℕ)) (after : At)
    → IsBytes count.1.rest → counted_at area at count ≡ Ok (lsas, after)
    → (length lsas ≡ count.0) × Takes count.1 (concat lsas) after × IsSection (section_with area lsas)
counted_takes area at count lsas after fits e =
    let n : ℕ = count.0 in
    let b = guard_ok (ltb (limit_of area) n) (fault_at at TooManyLsas) (lsas_from area n [] count.1) (lsas, after) e in
    let all = lsas_take area n [] count.1 lsas after fits (no_lsas area) b.1 in
    let few : n ≤ limit_of area = ltb-false _ _ b.0 in
    let size : length lsas ≡ n = ap length all.all_is ∙ all.count in
    let texts : concat all.new ≡ concat lsas = ap concat (sym all.all_is) in (
      size,
      subst (λ (t : List ℕ). Takes count.1 t after) texts all.takes,
      record {
        accepted = all.good.accepted;
        keys = record { few = omega (arith, length-map lsas key_of); scope = all.good.scope; distinct = all.good.distinct };
      },
    )

pub section_takes : (area : Option AreaHead) (at : At) (section : SectionLsas) (after : At) → IsBytes at.rest
    → section_at area at ≡ Ok (section, after) → TakesSection area at section after
unfolding section_at
section_takes area at section after fits e =
    let a = bind_ok (number_at w16 at) (λ count. counted_at area at count >>= made area) (section, after) e in
    let b = bind_ok (counted_at area at a.0) (made area) (section, after) a.2 in
    let count = number_takes w16 (2 ^ 16) wide16 at a.0.0 a.0.1 fits a.1 in
    let c = counted_takes area at a.0 b.0.0 b.0.1 count.0.rest_fits b.1 in
    let counted : to_be_bytes w16 a.0.0 ≡ to_be_bytes w16 (length b.0.0) = ap (to_be_bytes w16) (sym c.0) in
    let front : Takes at (to_be_bytes w16 (length b.0.0)) a.0.1 = subst (λ (t : List ℕ). Takes at t a.0.1) counted count.0 in
    subst (λ (p : SectionLsas × At). TakesSection area at p.0 p.1) (ok_is (section_with area b.0.0, b.0.1) (section, after) b.2)
    (record { head = refl; takes = Takes-then at (to_be_bytes w16 (length b.0.0)) a.0.1 (concat b.0.0) b.0.1 front c.1; good = c.2 })

pub section_again : (area : Option AreaHead) (lsas : List (List ℕ)) (o : ℕ) (rest : List ℕ)
    → IsSection (section_with area lsas)
    → section_at area (here o (lsas_text lsas ++ rest)) ≡ Ok (section_with area lsas, here (o + length (lsas_text lsas)) rest)
unfolding section_at
section_again area lsas o rest good =
    let at = here o (lsas_text lsas ++ rest) in
    let regrouped : lsas_text lsas ++ rest ≡ to_be_bytes w16 (length lsas) ++ (concat lsas ++ rest) =
    append_assoc (to_be_bytes w16 (length lsas)) (concat lsas) rest in
    let few : length lsas ≤ limit_of area = omega (arith, good.keys.few, length-map lsas key_of) in
    let read : number_at w16 at ≡ Ok (length lsas, here (o + 2) (concat lsas ++ rest)) =
    ap (λ (bytes : List ℕ). number_at w16 (here o bytes)) regrouped
    ∙ number_again w16 (2 ^ 16) wide16 (length lsas) o (concat lsas ++ rest) (omega (arith, limit_fits area)) in
    let within : ltb (limit_of area) (length lsas) ≡ false = le-ltb _ _ few in
    let others = lsas_again area lsas [] (o + 2) rest (record { accepted = good.accepted; scope = good.keys.scope; distinct = good.keys.distinct }) in
    let slot : o + 2 + length (concat lsas) ≡ o + length (lsas_text lsas) = omega (arith, length-append (to_be_bytes w16 (length lsas)) (concat lsas)) in
    ap (λ (r : Result (ℕ × At) DumpFault). r >>= λ count. counted_at area at count >>= made area) read
    ∙ ap (λ (b : Bool). cond b (Err (fault_at at TooManyLsas)) (lsas_from area (length lsas) [] (here (o + 2) (concat lsas ++ rest))) >>= made area) within
    ∙ ap (λ (r : Result (List (List ℕ) × At) DumpFault). r >>= made area) others
    ∙ ap (λ (k : ℕ). done (section_with area lsas, here k rest)) slot
