-- The areas: what is read is spelled so, and what is spelled so is read.
use Rattle.std.proofs.Common.{◌≡◌, ℕ, zero, suc, ◌+◌, ◌^◌, ◌<◌, ◌≤◌, Bool, true, false, List, [], ◌∷◌, ◌++◌, length, get_or}
use Rattle.std.proofs.Common.{Option, Some, None, Result, Ok, refl, sym, ap, subst, ◌∙◌, append_assoc, arith}
use Rattle.std.specs.Prelude.{All, AllPairs}
use Rattle.std.specs.List.{flat_map}
use Rattle.std.specs.Int.{w8, w16, w32, to_be_bytes}
use Rattle.std.proofs.lemmas.Bool.{ltb-true, lt-ltb}
use Rattle.std.proofs.lemmas.List.{append-nil, length-append, map_push}
use Rattle.std.proofs.lemmas.List.Concat.{flat_map-cons}
use Rattle.std.proofs.lemmas.List.Elements.{All-head, All-tail, All-push}
use Rattle.std.proofs.lemmas.List.Quantifiers.{all_pairs_push}
use Rattle.lsdb.specs.declared.fault.DumpFault.{DumpFault}
use Rattle.lsdb.specs.Lists.{AreaHead, SectionLsas, Lists, IsSection, IsBefore, HasWideId, IsOrdinaryBackbone, heads_of}
use Rattle.lsdb.specs.Text.{kind_number, head_text, section_text}
use Rattle.lsdb.specs.Loading.{◌>>=◌, At, is_above, section_at, id_at, kind_at, area_at, areas_from}
use Rattle.lsdb.proofs.Middle.{pairs_head, pairs_tail}
use Rattle.lsdb.proofs.Dominated.{section_with}
use Rattle.lsdb.proofs.NumberLemmas.{IsBytes, bind_ok, ok_is, done, Takes, Takes-then, here}
use Rattle.lsdb.proofs.HeadText.{id_takes, id_again, kind_takes, kind_again}
use Rattle.lsdb.proofs.SectionText.{lsas_text, section_takes, section_again}

-- ---- an area

abbrev head_with : ℕ → Bool → AreaHead
head_with id is_stub = record { id = id; is_stub = is_stub }

pub section_text-split : (s : SectionLsas) → section_text s ≡ head_text s.area ++ lsas_text s.lsas
section_text-split s = append_assoc (head_text s.area) (to_be_bytes w16 (length s.lsas)) _

record TakesArea (before : Option AreaHead) (at : At) (area : SectionLsas) (after : At) : Type 0 where
  pub head : AreaHead
  pub has : Some head ≡ area.area
  pub takes : Takes at (section_text area) after
  pub good : IsSection area
  pub wide : head.id < 2 ^ 32
  pub backbone : head.id ≡ 0 → head.is_stub ≡ false
  pub above : is_above head.id before ≡ true

area_takes : (before : Option AreaHead) (at : At) (area : SectionLsas) (after : At) → IsBytes at.rest
    → area_at before at ≡ Ok (area, after) → TakesArea before at area after
unfolding area_at
area_takes before at area after fits e =
    let a = bind_ok (id_at before at) (λ id. kind_at id.0 id.1 >>= λ kind. section_at (Some (head_with id.0 kind.0)) kind.1) (area, after) e in
    let b = bind_ok (kind_at a.0.0 a.0.1) (λ kind. section_at (Some (head_with a.0.0 kind.0)) kind.1) (area, after) a.2 in
    let id = id_takes before at a.0.0 a.0.1 fits a.1 in
    let kind = kind_takes a.0.0 a.0.1 b.0.0 b.0.1 id.0.rest_fits b.1 in
    let section = section_takes (Some (head_with a.0.0 b.0.0)) b.0.1 area after kind.0.rest_fits b.2 in
    let front : Takes at (head_text (Some (head_with a.0.0 b.0.0))) b.0.1 =
    Takes-then at (to_be_bytes w32 a.0.0) a.0.1 (to_be_bytes w8 (kind_number b.0.0)) b.0.1 id.0 kind.0 in
    let named : Takes at (head_text area.area) b.0.1 = subst (λ (h : Option AreaHead). Takes at (head_text h) b.0.1) section.head front in
    record {
      head = head_with a.0.0 b.0.0;
      has = section.head;
      takes = subst (λ (t : List ℕ). Takes at t after) (sym (section_text-split area))
          (Takes-then at (head_text area.area) b.0.1 (lsas_text area.lsas) after named section.takes);
      good = section.good;
      wide = id.1;
      backbone = kind.1;
      above = id.2;
    }

area_again : (before : Option AreaHead) (head : AreaHead) (lsas : List (List ℕ)) (o : ℕ) (rest : List ℕ)
    → IsSection (section_with (Some head) lsas) → head.id < 2 ^ 32 → (head.id ≡ 0 → head.is_stub ≡ false) → is_above head.id before ≡ true
    → let area = section_with (Some head) lsas in area_at before (here o (section_text area ++ rest)) ≡ Ok (area, here (o + length (section_text area)) rest)
unfolding area_at
area_again before head lsas o rest good wide backbone above =
    let area = section_with (Some head) lsas in
    let id : List ℕ = to_be_bytes w32 head.id in
    let kind : List ℕ = to_be_bytes w8 (kind_number head.is_stub) in
    let whole = section_text-split area in
    let regrouped : section_text area ++ rest ≡ id ++ (kind ++ (lsas_text lsas ++ rest)) =
    ap (λ (t : List ℕ). t ++ rest) whole ∙ append_assoc (id ++ kind) (lsas_text lsas) rest ∙ append_assoc id kind (lsas_text lsas ++ rest) in
    let slot : o + 4 + 1 + length (lsas_text lsas) ≡ o + length (section_text area) =
    omega (arith, ap length whole, length-append (id ++ kind) (lsas_text lsas), length-append id kind) in
    ap (λ (bytes : List ℕ). area_at before (here o bytes)) regrouped
    ∙ ap (λ (r : Result (ℕ × At) DumpFault). r >>= λ id. kind_at id.0 id.1 >>= λ kind. section_at (Some (head_with id.0 kind.0)) kind.1)
    (id_again before head.id o (kind ++ (lsas_text lsas ++ rest)) wide above)
    ∙ ap (λ (r : Result (Bool × At) DumpFault). r >>= λ kind. section_at (Some (head_with head.id kind.0)) kind.1)
    (kind_again head.id head.is_stub (o + 4) (lsas_text lsas ++ rest) backbone)
    ∙ section_again (Some head) lsas (o + 4 + 1) rest good
    ∙ ap (λ (k : ℕ). done (area, here k rest)) slot

-- ---- areas that were read

-- an area whose ID is not above another's
abbrev pub IsUpTo : Option AreaHead → Option AreaHead → Type 0
IsUpTo (Some a) (Some b) = a.id ≤ b.id
IsUpTo (Some a) None = ⊥
IsUpTo None b = ⊥

-- areas, the last of which has the head before
pub record AreAreas (areas : Lists) (before : Option AreaHead) : Type 0 where
  pub sections : All IsSection areas
  pub ids : All HasWideId (heads_of areas)
  pub backbone : All IsOrdinaryBackbone (heads_of areas)
  pub order : AllPairs IsBefore (heads_of areas)
  pub below : All (λ h. IsUpTo h before) (heads_of areas)

pub no_areas : AreAreas [] None
no_areas = record {
  sections = λ k d lt. absurd (omega arith);
  ids = λ k d lt. absurd (omega arith);
  backbone =
      λ k d lt. absurd (omega arith);
  order = λ i j d lt up. absurd (omega arith);
  below = λ k d lt. absurd (omega arith);
}

-- an ID above the last one is above all
passes : (h before : Option AreaHead) (a : AreaHead) → IsUpTo h before → is_above a.id before ≡ true → IsBefore h (Some a)
passes (Some x) (Some b) a le above = let lt : b.id < a.id = ltb-true _ _ above in omega arith
passes (Some x) None a le above = absurd le
passes None before a le above = absurd le

stays_below : (h before : Option AreaHead) (a : AreaHead) → IsUpTo h before → is_above a.id before ≡ true → IsUpTo h (Some a)
stays_below (Some x) (Some b) a le above = let lt : b.id < a.id = ltb-true _ _ above in omega arith
stays_below (Some x) None a le above = absurd le
stays_below None before a le above = absurd le

areas_push : (seen : Lists) (before : Option AreaHead) (area : SectionLsas) (head : AreaHead) → AreAreas seen before
    → Some head ≡ area.area → IsSection area → head.id < 2 ^ 32 → (head.id ≡ 0 → head.is_stub ≡ false)
    → is_above head.id before ≡ true → AreAreas (seen ++ area ∷ []) area.area
areas_push seen before area head old has good wide backbone above =
    let heads : heads_of (seen ++ area ∷ []) ≡ heads_of seen ++ Some head ∷ [] = map_push (λ (s : SectionLsas). s.area) seen area
    ∙ ap (λ (h : Option AreaHead). heads_of seen ++ h ∷ []) (sym has) in
    let up : All (λ h. IsUpTo h (Some head)) (heads_of seen) = λ k d lt. stays_below (get_or (heads_of seen) k d) before head (old.below k d lt) above in
    let highest : All (λ h. IsUpTo h (Some head)) (heads_of (seen ++ area ∷ [])) = subst (All (λ h. IsUpTo h (Some head)))
    (sym heads) (All-push (λ h. IsUpTo h (Some head)) (heads_of seen) (Some head) up (omega arith)) in
    record {
      sections = All-push IsSection seen area old.sections good;
      ids = subst (All HasWideId) (sym heads) (All-push HasWideId (heads_of seen) (Some head) old.ids wide);
      backbone = subst (All IsOrdinaryBackbone) (sym heads) (All-push IsOrdinaryBackbone (heads_of seen) (Some head) old.backbone backbone);
      order = subst (AllPairs IsBefore) (sym heads)
          (all_pairs_push IsBefore (heads_of seen) (Some head) old.order (λ k d lt. passes (get_or (heads_of seen) k d) before head (old.below k d lt) above));
      below = subst (λ (b : Option AreaHead). All (λ h. IsUpTo h b) (heads_of (seen ++ area ∷ []))) has highest;
    }

pub record TakesAreas (n : ℕ) (seen : Lists) (at : At) (all : Lists) (after : At) : Type 0 where
  pub new : Lists
  pub all_is : all ≡ seen ++ new
  pub count : length new ≡ n
  pub takes : Takes at (flat_map section_text new) after
  pub last : Option AreaHead
  pub good : AreAreas all last

pub areas_take : (n : ℕ) (before : Option AreaHead) (seen : Lists) (at : At) (all : Lists) (after : At) → IsBytes at.rest
    → AreAreas seen before → areas_from n before seen at ≡ Ok (all, after) → TakesAreas n seen at all after
unfolding areas_from
areas_take zero before seen at all after fits old e =
    subst (λ (p : Lists × At). TakesAreas 0 seen at p.0 p.1) (ok_is (seen, at) (all, after) e)
    (record {
      new = [];
      all_is = sym (append-nil seen);
      count = refl;
      takes = record { parts = refl; rest_fits = fits; moved = omega arith };
      last = before;
      good = old;
    })
areas_take (suc n) before seen at all after fits old e =
    let a = bind_ok (area_at before at) (λ area. areas_from n area.0.area (seen ++ area.0 ∷ []) area.1) (all, after) e in
    let area : SectionLsas = a.0.0 in
    let one = area_takes before at area a.0.1 fits a.1 in
    let next = areas_push seen before area one.head old one.has one.good one.wide one.backbone one.above in
    let more = areas_take n area.area (seen ++ area ∷ []) a.0.1 all after one.takes.rest_fits next a.2 in
    record {
      new = area ∷ more.new;
      all_is = more.all_is ∙ append_assoc seen (area ∷ []) more.new;
      count = ap suc more.count;
      takes = rw flat_map-cons (Takes-then at (section_text area) a.0.1 (flat_map section_text more.new) after one.takes more.takes);
      last = more.last;
      good = more.good;
    }

-- ---- areas that are read again

-- an area whose ID is above another's
abbrev pub IsAfter : Option AreaHead → Option AreaHead → Type 0
IsAfter before None = ⊥
IsAfter None (Some a) = Unit {0}
IsAfter (Some before) (Some a) = before.id < a.id

-- areas that may stand after one with the head before
pub record AreNext (before : Option AreaHead) (areas : Lists) : Type 0 where
  pub sections : All IsSection areas
  pub ids : All HasWideId (heads_of areas)
  pub backbone : All IsOrdinaryBackbone (heads_of areas)
  pub order : AllPairs IsBefore (heads_of areas)
  pub after : All (IsAfter before) (heads_of areas)

is_above_from : (before : Option AreaHead) (a : AreaHead) → IsAfter before (Some a) → is_above a.id before ≡ true
is_above_from None a h = refl
is_above_from (Some b) a h = lt-ltb _ _ h

is_after : (before h : Option AreaHead) (a : AreaHead) → IsAfter before h → IsBefore (Some a) h → IsAfter (Some a) h
is_after before None a x y = absurd x
is_after before (Some b) a x y = y

abbrev pub AfterAreas : Type 0
AfterAreas = Result (Lists × At) DumpFault

next_area : (before : Option AreaHead) (area : SectionLsas) (areas : Lists) (o : ℕ) (rest : List ℕ) → AreNext before (area ∷ areas)
    → area_at before (here o (section_text area ++ rest)) ≡ Ok (area, here (o + length (section_text area)) rest) × AreNext area.area areas
next_area before area areas o rest good = by_head area.area refl where
  by_head : (h : Option AreaHead) → area.area ≡ h → area_at before (here o (section_text area ++ rest)) ≡ Ok
      (area, here (o + length (section_text area)) rest) × AreNext area.area areas
  by_head None is = absurd (subst (IsAfter before) is (All-head (IsAfter before) area.area (heads_of areas) good.after))
  by_head (Some a) is =
      let heads = heads_of areas in
      let same : section_with (Some a) area.lsas ≡ area = ap (λ (h : Option AreaHead). section_with h area.lsas) (sym is) in
      let above : is_above a.id before ≡ true = is_above_from before a (subst (IsAfter before) is (All-head (IsAfter before) area.area heads good.after)) in
      let first : IsSection (section_with (Some a) area.lsas) = subst IsSection (sym same) (All-head IsSection area areas good.sections) in
      let wide : a.id < 2 ^ 32 = subst HasWideId is (All-head HasWideId area.area heads good.ids) in
      let backbone : a.id ≡ 0 → a.is_stub ≡ false = subst IsOrdinaryBackbone is (All-head IsOrdinaryBackbone area.area heads good.backbone) in
      let later : All (IsBefore (Some a)) heads = subst (λ (h : Option AreaHead). All (IsBefore h) heads) is (pairs_head IsBefore area.area heads good.order) in
      let follows : All (IsAfter before) heads = All-tail (IsAfter before) area.area heads good.after in (
        subst (λ (s : SectionLsas). area_at before (here o (section_text s ++ rest)) ≡ Ok (s, here (o + length (section_text s)) rest)) same
            (area_again before a area.lsas o rest first wide backbone above),
        record {
          sections = All-tail IsSection area areas good.sections;
          ids = All-tail HasWideId area.area heads good.ids;
          backbone = All-tail IsOrdinaryBackbone area.area heads good.backbone;
          order = pairs_tail IsBefore area.area heads good.order;
          after = subst (λ (b : Option AreaHead). All (IsAfter b) heads) (sym is)
              (λ k d lt. is_after before (get_or heads k d) a (follows k d lt) (later k d lt));
        },
      )

pub areas_again : (areas : Lists) (before : Option AreaHead) (seen : Lists) (o : ℕ) (rest : List ℕ) → AreNext before areas
    → areas_from (length areas) before seen (here o (flat_map section_text areas ++ rest)) ≡ Ok
    (seen ++ areas, here (o + length (flat_map section_text areas)) rest)
unfolding areas_from
areas_again [] before seen o rest good =
    let same : seen ≡ seen ++ [] = sym (append-nil seen) in
    let slot : o ≡ o + 0 = omega arith in
    ap (λ (x : Lists). done (x, here o rest)) same ∙ ap (λ (k : ℕ). done (seen ++ [], here k rest)) slot
areas_again (area ∷ areas) before seen o rest good =
    let others_text : List ℕ = flat_map section_text areas in
    let text : flat_map section_text (area ∷ areas) ≡ section_text area ++ others_text = flat_map-cons section_text area areas in
    let regrouped : flat_map section_text (area ∷ areas) ++ rest ≡ section_text area ++ (others_text ++ rest) =
    ap (λ (x : List ℕ). x ++ rest) text ∙ append_assoc (section_text area) others_text rest in
    let moved : (seen ++ area ∷ []) ++ areas ≡ seen ++ area ∷ areas = append_assoc seen (area ∷ []) areas in
    let first = next_area before area areas o (others_text ++ rest) good in
    let others = areas_again areas area.area (seen ++ area ∷ []) (o + length (section_text area)) rest first.1 in
    let slot : o + length (section_text area) + length others_text ≡ o + length (flat_map section_text (area ∷ areas)) =
    omega (arith, ap length text, length-append (section_text area) others_text) in
    ap (λ (bytes : List ℕ). areas_from (suc (length areas)) before seen (here o bytes)) regrouped
    ∙ ap (λ (r : Result (SectionLsas × At) DumpFault). r >>= λ x. areas_from (length areas) x.0.area (seen ++ x.0 ∷ []) x.1) first.0
    ∙ others
    ∙ ap (λ (x : Lists). done (x, here (o + length (section_text area) + length others_text) rest)) moved
    ∙ ap (λ (k : ℕ). done (seen ++ area ∷ areas, here k rest)) slot
