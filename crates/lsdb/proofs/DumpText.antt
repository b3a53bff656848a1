-- The whole dump: what is loaded is spelled so, and what is spelled so is loaded.
use Rattle.std.proofs.Common.{◌≡◌, ℕ, ◌+◌, ◌^◌, ◌≤◌, Bool, true, false, cond, ltb, eqb, List, [], ◌∷◌, ◌++◌, length, Option, Some, None, Result, Ok}
use Rattle.std.proofs.Common.{Err, refl, sym, ap, subst, ◌∙◌, append_assoc, arith}
use Rattle.std.specs.Prelude.{All, AllPairs}
use Rattle.std.specs.List.{flat_map, list_any}
use Rattle.std.specs.Int.{w8, w32, to_be_bytes}
use Rattle.std.proofs.lemmas.Bool.{ltb-false, le-ltb, eqb-true}
use Rattle.std.proofs.lemmas.List.{append-nil, nil_from_length, length-append, length-map, map_push}
use Rattle.std.proofs.lemmas.List.Concat.{flat_map-append, flat_map-cons}
use Rattle.std.proofs.lemmas.List.Elements.{All-push}
use Rattle.std.proofs.lemmas.List.Quantifiers.{all_pairs_push}
use Rattle.lsdb.specs.declared.fault.DumpFault.{DumpFault}
use Rattle.lsdb.specs.declared.fault.DumpFaultKind.TheVariants.{BadMagic, BadVersion, TrailingBytes, TooManyAreas, TooLarge}
use Rattle.lsdb.specs.Limits.{longest_dump}
use Rattle.lsdb.specs.Lists.{AreaHead, SectionLsas, Lists, IsSection, IsBefore, is_as_wide, HasWideId, IsOrdinaryBackbone, AreHeads, IsDatabase}
use Rattle.lsdb.specs.Lists.{heads_of, size}
use Rattle.lsdb.specs.Text.{magic, version, head_text, section_text, area_count, text}
use Rattle.lsdb.specs.BaseText.{sections_text}
use Rattle.lsdb.specs.Loading.{◌>>=◌, At, number_at, section_at, areas_from, magic_at, version_at, area_count_at, sections_at, ended, dump_at, loaded}
use Rattle.lsdb.specs.Loading.{beginning}
use Rattle.lsdb.proofs.Middle.{all_at_mid, all_front, pairs_without}
use Rattle.lsdb.proofs.Dominated.{section_with}
use Rattle.lsdb.proofs.NumberLemmas.{IsBytes, bind_ok, guard_ok, passed_ok, ok_is, done, fault_at, Takes, Takes-then, wide8, wide32, number_takes, number_again, here}
use Rattle.lsdb.proofs.SectionText.{lsas_text, section_takes, section_again}
use Rattle.lsdb.proofs.AreaText.{section_text-split, IsUpTo, AreAreas, AreNext, no_areas, areas_take, areas_again}
use Rattle.lsdb.proofs.LastSection.{split}
use Rattle.lsdb.proofs.TextSize.{sections_size, text_size}

-- ---- what is read

pub magic_takes : (at after : At) → IsBytes at.rest → magic_at at ≡ Ok after → Takes at (to_be_bytes w32 magic) after
unfolding magic_at
magic_takes at after fits e =
    let a = bind_ok (number_at w32 at) (λ n. cond (eqb n.0 magic) (Ok n.1) (Err (fault_at at BadMagic))) after e in
    let b = passed_ok (eqb a.0.0 magic) (fault_at at BadMagic) (Ok a.0.1) after a.2 in
    let t = number_takes w32 (2 ^ 32) wide32 at a.0.0 a.0.1 fits a.1 in
    let taken : Takes at (to_be_bytes w32 magic) a.0.1 = subst (λ (k : ℕ). Takes at (to_be_bytes w32 k) a.0.1) (eqb-true _ _ b.0) t.0 in
    subst (λ (p : At). Takes at (to_be_bytes w32 magic) p) (ok_is a.0.1 after b.1) taken

version_takes : (at after : At) → IsBytes at.rest → version_at at ≡ Ok after → Takes at (to_be_bytes w8 version) after
unfolding version_at
version_takes at after fits e =
    let a = bind_ok (number_at w8 at) (λ n. cond (eqb n.0 version) (Ok n.1) (Err (fault_at at BadVersion))) after e in
    let b = passed_ok (eqb a.0.0 version) (fault_at at BadVersion) (Ok a.0.1) after a.2 in
    let t = number_takes w8 (2 ^ 8) wide8 at a.0.0 a.0.1 fits a.1 in
    let taken : Takes at (to_be_bytes w8 version) a.0.1 = subst (λ (k : ℕ). Takes at (to_be_bytes w8 k) a.0.1) (eqb-true _ _ b.0) t.0 in
    subst (λ (p : At). Takes at (to_be_bytes w8 version) p) (ok_is a.0.1 after b.1) taken

count_takes : (at : At) (n : ℕ) (after : At) → IsBytes at.rest → area_count_at at ≡ Ok (n, after)
    → Takes at (to_be_bytes w8 n) after × (n ≤ 64)
unfolding area_count_at
count_takes at n after fits e =
    let a = bind_ok (number_at w8 at) (λ n. cond (ltb 64 n.0) (Err (fault_at at TooManyAreas)) (Ok n)) (n, after) e in
    let b = guard_ok (ltb 64 a.0.0) (fault_at at TooManyAreas) (Ok a.0) (n, after) a.2 in
    let t = number_takes w8 (2 ^ 8) wide8 at a.0.0 a.0.1 fits a.1 in
    subst (λ (p : ℕ × At). Takes at (to_be_bytes w8 p.0) p.1 × (p.0 ≤ 64)) (ok_is a.0 (n, after) b.1) (t.0, ltb-false _ _ b.0)

-- ---- the sections

before_wide : (h before : Option AreaHead) → IsUpTo h before → IsBefore h None
before_wide (Some x) before le = tt
before_wide None before le = absurd le

wide_last : (hs : List (Option AreaHead)) → list_any is_as_wide (hs ++ None ∷ []) ≡ true
wide_last [] = refl
wide_last (None ∷ hs) = refl
wide_last (Some a ∷ hs) = wide_last hs

heads_ended : (areas : Lists) (last : Option AreaHead) → AreAreas areas last → length areas ≤ 64 → AreHeads (heads_of areas ++ None ∷ [])
heads_ended areas last h few =
    let heads = heads_of areas in
    record {
      few = omega (arith, length-append heads (None ∷ []), length-map areas (λ (s : SectionLsas). s.area), few);
      ids = All-push HasWideId heads None h.ids tt;
      order = all_pairs_push IsBefore heads None h.order (λ k d lt. before_wide _ last (h.below k d lt));
      backbone = All-push IsOrdinaryBackbone heads None h.backbone tt;
      as_wide = wide_last heads;
    }

area_count-push : (areas : Lists) (s : SectionLsas) → area_count (areas ++ s ∷ []) ≡ length areas
area_count-push areas s = omega (arith, length-append areas (s ∷ []))

flat_map-push : (areas : Lists) (s : SectionLsas) → flat_map section_text (areas ++ s ∷ []) ≡ flat_map section_text areas ++ section_text s
flat_map-push areas s =
    flat_map-append section_text areas (s ∷ []) ∙ ap (λ (t : List ℕ). flat_map section_text areas ++ t)
    (flat_map-cons section_text s [] ∙ append-nil (section_text s))

wide_text : (s : SectionLsas) → None ≡ s.area → section_text s ≡ lsas_text s.lsas
wide_text s e = section_text-split s ∙ ap (λ (h : Option AreaHead). head_text h ++ lsas_text s.lsas) (sym e)

pub record TakesSections (at : At) (db : Lists) (after : At) : Type 0 where
  pub takes : Takes at (sections_text db) after
  pub heads : AreHeads (heads_of db)
  pub sections : All IsSection db

abbrev with_wide : Lists → SectionLsas × At → Result (Lists × At) DumpFault
with_wide areas wide = Ok (areas ++ wide.0 ∷ [], wide.1)

abbrev after_areas : Lists × At → Result (Lists × At) DumpFault
after_areas areas = section_at None areas.1 >>= with_wide areas.0

abbrev after_count : ℕ × At → Result (Lists × At) DumpFault
after_count count = areas_from count.0 None [] count.1 >>= after_areas

pub sections_take : (at : At) (db : Lists) (after : At) → IsBytes at.rest → sections_at at ≡ Ok (db, after) → TakesSections at db after
unfolding sections_at
sections_take at db after fits e =
    let c = bind_ok (area_count_at at) after_count (db, after) e in
    let d = bind_ok (areas_from c.0.0 None [] c.0.1) after_areas (db, after) c.2 in
    let f = bind_ok (section_at None d.0.1) (with_wide d.0.0) (db, after) d.2 in
    let areas : Lists = d.0.0 in
    let wide : SectionLsas = f.0.0 in
    let t1 = count_takes at c.0.0 c.0.1 fits c.1 in
    let t2 = areas_take c.0.0 None [] c.0.1 areas d.0.1 t1.0.rest_fits no_areas d.1 in
    let t3 = section_takes None d.0.1 wide f.0.1 t2.takes.rest_fits f.1 in
    let size : length areas ≡ c.0.0 = ap length t2.all_is ∙ t2.count in
    let number : c.0.0 ≡ area_count (areas ++ wide ∷ []) = sym size ∙ sym (area_count-push areas wide) in
    let first : Takes at (to_be_bytes w8 (area_count (areas ++ wide ∷ []))) c.0.1 = subst (λ (n : ℕ). Takes at (to_be_bytes w8 n) c.0.1) number t1.0 in
    let listed : Takes c.0.1 (flat_map section_text areas) d.0.1 =
    subst (λ (xs : Lists). Takes c.0.1 (flat_map section_text xs) d.0.1) (sym t2.all_is) t2.takes in
    let last : Takes d.0.1 (section_text wide) f.0.1 = subst (λ (t : List ℕ). Takes d.0.1 t f.0.1) (sym (wide_text wide t3.head)) t3.takes in
    let all : Takes c.0.1 (flat_map section_text (areas ++ wide ∷ [])) f.0.1 =
    subst (λ (t : List ℕ). Takes c.0.1 t f.0.1) (sym (flat_map-push areas wide))
    (Takes-then c.0.1 (flat_map section_text areas) d.0.1 (section_text wide) f.0.1 listed last) in
    let heads : heads_of (areas ++ wide ∷ []) ≡ heads_of areas ++ None ∷ [] =
    map_push (λ (s : SectionLsas). s.area) areas wide ∙ ap (λ (h : Option AreaHead). heads_of areas ++ h ∷ []) (sym t3.head) in
    subst (λ (p : Lists × At). TakesSections at p.0 p.1) (ok_is (areas ++ wide ∷ [], f.0.1) (db, after) f.2)
    (record {
      takes = Takes-then at (to_be_bytes w8 (area_count (areas ++ wide ∷ []))) c.0.1 (flat_map section_text (areas ++ wide ∷ [])) f.0.1 first all;
      heads = subst AreHeads (sym heads) (heads_ended areas t2.last t2.good (omega (arith, size, t1.1)));
      sections = All-push IsSection areas wide t2.good.sections t3.good;
    })

-- ---- the whole dump

text-split : (db : Lists) → text db ≡ to_be_bytes w32 magic ++ (to_be_bytes w8 version ++ sections_text db)
unfolding text
text-split db =
    let m : List ℕ = to_be_bytes w32 magic in
    let v : List ℕ = to_be_bytes w8 version in
    let n : List ℕ = to_be_bytes w8 (area_count db) in
    append_assoc (m ++ v) n (flat_map section_text db) ∙ append_assoc m v (n ++ flat_map section_text db)

record Spelled (bytes : List ℕ) (db : Lists) : Type 0 where
  pub heads : AreHeads (heads_of db)
  pub sections : All IsSection db
  pub text : bytes ≡ text db

abbrev after_version : At → Result Lists DumpFault
after_version at = sections_at at >>= ended

abbrev after_magic : At → Result Lists DumpFault
after_magic at = version_at at >>= after_version

dump_takes : (bytes : List ℕ) (db : Lists) → IsBytes bytes → dump_at (beginning bytes) ≡ Ok db → Spelled bytes db
unfolding dump_at
dump_takes bytes db fits e =
    let start : At = beginning bytes in
    let m : List ℕ = to_be_bytes w32 magic in
    let v : List ℕ = to_be_bytes w8 version in
    let a = bind_ok (magic_at start) after_magic db e in
    let b = bind_ok (version_at a.0) after_version db a.2 in
    let c = bind_ok (sections_at b.0) ended db b.2 in
    let found : Lists = c.0.0 in
    let g = passed_ok (eqb (length c.0.1.rest) 0) (fault_at c.0.1 TrailingBytes) (done found) db c.2 in
    let t0 = magic_takes start a.0 fits a.1 in
    let t1 = version_takes a.0 b.0 t0.rest_fits b.1 in
    let t2 = sections_take b.0 found c.0.1 t1.rest_fits c.1 in
    let beyond = Takes-then a.0 v b.0 (sections_text found) c.0.1 t1 t2.takes in
    let all = Takes-then start m a.0 (v ++ sections_text found) c.0.1 t0 beyond in
    let nothing : c.0.1.rest ≡ [] = nil_from_length c.0.1.rest (eqb-true _ _ g.0) in
    let whole : bytes ≡ text found =
    all.parts ∙ ap (λ (r : List ℕ). m ++ (v ++ sections_text found) ++ r) nothing ∙ append-nil (m ++ (v ++ sections_text found)) ∙ sym (text-split found) in
    subst (λ (x : Lists). Spelled bytes x) (ok_is found db g.1) (record { heads = t2.heads; sections = t2.sections; text = whole })

pub loaded_takes : (bytes : List ℕ) (db : Lists) → IsBytes bytes → loaded bytes ≡ Ok db → IsDatabase db × (bytes ≡ text db)
unfolding loaded
loaded_takes bytes db fits e =
    let a = guard_ok (ltb longest_dump (length bytes)) (fault_at (beginning bytes) TooLarge) (dump_at (beginning bytes)) db e in
    let spelled = dump_takes bytes db fits a.1 in
    let small : length bytes ≤ longest_dump = ltb-false _ _ a.0 in
    (record { heads = spelled.heads; sections = spelled.sections; small = omega (arith, small, ap length spelled.text, text_size db) }, spelled.text)

-- ---- what is spelled is read again

pub magic_again : (rest : List ℕ) → magic_at (here 0 (to_be_bytes w32 magic ++ rest)) ≡ Ok (here 4 rest)
unfolding magic_at
magic_again rest =
    let at : At = here 0 (to_be_bytes w32 magic ++ rest) in
    ap (λ (r : Result (ℕ × At) DumpFault). r >>= λ n. cond (eqb n.0 magic) (Ok n.1) (Err (fault_at at BadMagic)))
    (number_again w32 (2 ^ 32) wide32 magic 0 rest (omega arith))

version_again : (rest : List ℕ) → version_at (here 4 (to_be_bytes w8 version ++ rest)) ≡ Ok (here 5 rest)
unfolding version_at
version_again rest =
    let at : At = here 4 (to_be_bytes w8 version ++ rest) in
    ap (λ (r : Result (ℕ × At) DumpFault). r >>= λ n. cond (eqb n.0 version) (Ok n.1) (Err (fault_at at BadVersion)))
    (number_again w8 (2 ^ 8) wide8 version 4 rest (omega arith))

count_again : (n : ℕ) (rest : List ℕ) → n ≤ 64 → area_count_at (here 5 (to_be_bytes w8 n ++ rest)) ≡ Ok (n, here 6 rest)
unfolding area_count_at
count_again n rest few =
    let at : At = here 5 (to_be_bytes w8 n ++ rest) in
    let within : ltb 64 n ≡ false = le-ltb _ _ few in
    ap (λ (r : Result (ℕ × At) DumpFault). r >>= λ n. cond (ltb 64 n.0) (Err (fault_at at TooManyAreas)) (Ok n))
    (number_again w8 (2 ^ 8) wide8 n 5 rest (omega arith))
    ∙ rw within refl

sections_again : (areas : Lists) (lsas : List (List ℕ)) (rest : List ℕ) → AreNext None areas
    → length areas ≤ 64 → IsSection (section_with None lsas)
    → let db =
    areas ++ section_with None lsas ∷ [] in sections_at (here 5 (sections_text db ++ rest)) ≡ Ok
    (db, here (6 + length (flat_map section_text areas) + length (lsas_text lsas)) rest)
unfolding sections_at
sections_again areas lsas rest next few good =
    let wide = section_with None lsas in
    let db = areas ++ wide ∷ [] in
    let n : List ℕ = to_be_bytes w8 (length areas) in
    let listed : List ℕ = flat_map section_text areas in
    let beyond : List ℕ = lsas_text lsas ++ rest in
    let number : to_be_bytes w8 (area_count db) ≡ n = ap (to_be_bytes w8) (area_count-push areas wide) in
    let pieces : flat_map section_text db ≡ listed ++ lsas_text lsas = flat_map-push areas wide ∙ ap (λ (t : List ℕ). listed ++ t) (wide_text wide refl) in
    let regrouped : sections_text db ++ rest ≡ n ++ (listed ++ beyond) =
    ap (λ (t : List ℕ). t ++ flat_map section_text db ++ rest) number ∙ ap (λ (t : List ℕ). n ++ t ++ rest) pieces
    ∙ append_assoc n (listed ++ lsas_text lsas) rest ∙ ap (λ (t : List ℕ). n ++ t) (append_assoc listed (lsas_text lsas) rest) in
    ap (λ (bytes : List ℕ). sections_at (here 5 bytes)) regrouped
    ∙ ap (λ (r : Result (ℕ × At) DumpFault). r >>= after_count) (count_again (length areas) (listed ++ beyond) few)
    ∙ ap (λ (r : Result (Lists × At) DumpFault). r >>= after_areas) (areas_again areas None [] 6 beyond next)
    ∙ ap (λ (r : Result (SectionLsas × At) DumpFault). r >>= with_wide areas) (section_again None lsas (6 + length listed) rest good)

-- the sections of a database, whatever follows them
pub database_sections : (db : Lists) (rest : List ℕ) → IsDatabase db
    → sections_at (here 5 (sections_text db ++ rest)) ≡ Ok (db, here (size db) rest)
database_sections db rest good =
    let s = split db good.heads.order good.heads.as_wide in
    let wide = section_with None s.wide.lsas in
    let whole : Lists = s.areas ++ wide ∷ [] in
    let same : s.wide ≡ wide = ap (λ (h : Option AreaHead). section_with h s.wide.lsas) s.none in
    let is : db ≡ whole = s.is ∙ ap (λ (x : SectionLsas). s.areas ++ x ∷ []) same in
    let heads : heads_of db ≡ heads_of s.areas ++ None ∷ [] = ap heads_of is ∙ map_push (λ (x : SectionLsas). x.area) s.areas wide in
    let sections : All IsSection whole = subst (All IsSection) is good.sections in
    let next : AreNext None s.areas = record {
      sections = all_front IsSection s.areas (wide ∷ []) sections;
      ids = all_front HasWideId (heads_of s.areas) (None ∷ []) (subst (All HasWideId) heads good.heads.ids);
      backbone = all_front IsOrdinaryBackbone (heads_of s.areas) (None ∷ []) (subst (All IsOrdinaryBackbone) heads good.heads.backbone);
      order =
          subst (AllPairs IsBefore) (append-nil (heads_of s.areas))
          (pairs_without IsBefore (heads_of s.areas) [] None (subst (AllPairs IsBefore) heads good.heads.order));
      after = s.after;
    } in
    let few : length s.areas ≤ 64 =
    omega (arith, good.heads.few, ap length heads, length-append (heads_of s.areas) (None ∷ []), length-map s.areas (λ (x : SectionLsas). x.area)) in
    let listed : List ℕ = flat_map section_text s.areas in
    let last : List ℕ = lsas_text s.wide.lsas in
    let pieces : flat_map section_text whole ≡ listed ++ last = flat_map-push s.areas wide ∙ ap (λ (t : List ℕ). listed ++ t) (wide_text wide refl) in
    let slot : 6 + length listed + length last ≡ size whole = omega (arith, sections_size whole, ap length pieces, length-append listed last) in
    subst (λ (d : Lists). sections_at (here 5 (sections_text d ++ rest)) ≡ Ok (d, here (size d) rest)) (sym is)
    (sections_again s.areas s.wide.lsas rest next few (all_at_mid IsSection s.areas [] wide sections) ∙ ap (λ (k : ℕ). done (whole, here k rest)) slot)

dump_again : (db : Lists) → IsDatabase db → dump_at (beginning (text db)) ≡ Ok db
unfolding dump_at
dump_again db good =
    let whole : sections_text db ≡ sections_text db ++ [] = sym (append-nil (sections_text db)) in
    let regrouped : text db ≡ to_be_bytes w32 magic ++ (to_be_bytes w8 version ++ (sections_text db ++ [])) =
    text-split db ∙ ap (λ (t : List ℕ). to_be_bytes w32 magic ++ (to_be_bytes w8 version ++ t)) whole in
    ap (λ (bytes : List ℕ). dump_at (beginning bytes)) regrouped
    ∙ ap (λ (r : Result At DumpFault). r >>= after_magic) (magic_again (to_be_bytes w8 version ++ (sections_text db ++ [])))
    ∙ ap (λ (r : Result At DumpFault). r >>= after_version) (version_again (sections_text db ++ []))
    ∙ ap (λ (r : Result (Lists × At) DumpFault). r >>= ended) (database_sections db [] good)

pub loaded_again : (db : Lists) → IsDatabase db → loaded (text db) ≡ Ok db
unfolding loaded
loaded_again db good =
    let small : ltb longest_dump (length (text db)) ≡ false = le-ltb _ _ (omega (arith, good.small, text_size db)) in
    ap (λ (b : Bool). cond b (Err (fault_at (beginning (text db)) TooLarge)) (dump_at (beginning (text db)))) small
    ∙ dump_again db good

-- different databases have different texts
pub one_text : (a b : Lists) → IsDatabase a → IsDatabase b → text a ≡ text b → a ≡ b
one_text a b p q e = ok_is a b (sym (loaded_again a p) ∙ ap loaded e ∙ loaded_again b q)
