-- Reading LSAs and areas one after another, as a loop does.
use Rattle.std.proofs.Common.{◌≡◌, ℕ, suc, ◌-◌, ◌+◌, ◌≤◌, ◌<◌, true, false, List, [], ◌∷◌, ◌++◌, Option, Result, Ok, Err, refl, sym, ◌∙◌, arith}
use Rattle.lsdb.specs.declared.fault.DumpFault.{DumpFault}
use Rattle.lsdb.specs.declared.fault.DumpFaultKind.TheVariants.{DuplicateLsa}
use Rattle.lsdb.specs.declared.fault.ReadError.{ReadError}
use Rattle.lsdb.specs.declared.fault.ReadError.TheVariants as errors
use Rattle.lsdb.specs.Lists.{AreaHead, SectionLsas, Lists}
use Rattle.lsdb.specs.Loading.{At, lsa_at, lsas_from, area_at, areas_from, has_key_of, fault}
use Rattle.lsdb.specs.steps.Reading.{Fails}

abbrev pub AfterLsas : Type 0
AfterLsas = Result (List (List ℕ) × At) DumpFault

pub lsas_goes_on : (area : Option AreaHead) (count i : ℕ) (seen : List (List ℕ)) (at after : At) (lsa : List ℕ) (total : AfterLsas)
    → i < count → lsa_at area at ≡ Ok (lsa, after) → has_key_of seen lsa ≡ false
    → lsas_from area (count - i) seen at ≡ total → lsas_from area (count - (i + 1)) (seen ++ lsa ∷ []) after ≡ total
unfolding lsas_from
lsas_goes_on area count i seen at after lsa total lt h new so_far =
    let k : count - i ≡ suc (count - (i + 1)) = omega arith in
    let one : lsas_from area (count - i) seen at ≡ lsas_from area (count - (i + 1)) (seen ++ lsa ∷ []) after = rw (k, h, new) refl in
    sym one ∙ so_far

-- the LSA has a fault
pub lsas_end : (e : ReadError) (area : Option AreaHead) (count i : ℕ) (seen : List (List ℕ)) (at : At) (total : AfterLsas)
    → i < count → Fails e (lsa_at area at)
    → lsas_from area (count - i) seen at ≡ total → Fails e total
unfolding lsas_from
lsas_end errors.Memory area count i seen at total lt h so_far = tt
lsas_end (errors.Fault f) area count i seen at total lt h so_far =
    let k : count - i ≡ suc (count - (i + 1)) = omega arith in
    let one : lsas_from area (count - i) seen at ≡ Err f = rw (k, h) refl in
    sym so_far ∙ one

-- its key was seen
pub lsas_twice : (area : Option AreaHead) (count i : ℕ) (seen : List (List ℕ)) (at after : At) (lsa : List ℕ) (total : AfterLsas)
    → i < count → lsa_at area at ≡ Ok (lsa, after) → has_key_of seen lsa ≡ true
    → lsas_from area (count - i) seen at ≡ total → total ≡ fault at DuplicateLsa
unfolding lsas_from
lsas_twice area count i seen at after lsa total lt h again so_far =
    let k : count - i ≡ suc (count - (i + 1)) = omega arith in
    let one : lsas_from area (count - i) seen at ≡ fault at DuplicateLsa = rw (k, h, again) refl in
    sym so_far ∙ one

pub lsas_done : (area : Option AreaHead) (count i : ℕ) (seen : List (List ℕ)) (at : At) (total : AfterLsas) → count ≤ i
    → lsas_from area (count - i) seen at ≡ total → total ≡ Ok (seen, at)
unfolding lsas_from
lsas_done area count i seen at total le so_far =
    let k : count - i ≡ 0 = omega arith in
    let one : lsas_from area (count - i) seen at ≡ Ok (seen, at) = rw k refl in
    sym so_far ∙ one

abbrev pub AfterAreas : Type 0
AfterAreas = Result (Lists × At) DumpFault

pub areas_goes_on : (count i : ℕ) (before : Option AreaHead) (seen : Lists) (at after : At) (area : SectionLsas) (total : AfterAreas)
    → i < count → area_at before at ≡ Ok (area, after)
    → areas_from (count - i) before seen at ≡ total → areas_from (count - (i + 1)) area.area (seen ++ area ∷ []) after ≡ total
unfolding areas_from
areas_goes_on count i before seen at after area total lt h so_far =
    let k : count - i ≡ suc (count - (i + 1)) = omega arith in
    let one : areas_from (count - i) before seen at ≡ areas_from (count - (i + 1)) area.area (seen ++ area ∷ []) after = rw (k, h) refl in
    sym one ∙ so_far

pub areas_end : (e : ReadError) (count i : ℕ) (before : Option AreaHead) (seen : Lists) (at : At) (total : AfterAreas)
    → i < count → Fails e (area_at before at)
    → areas_from (count - i) before seen at ≡ total → Fails e total
unfolding areas_from
areas_end errors.Memory count i before seen at total lt h so_far = tt
areas_end (errors.Fault f) count i before seen at total lt h so_far =
    let k : count - i ≡ suc (count - (i + 1)) = omega arith in
    let one : areas_from (count - i) before seen at ≡ Err f = rw (k, h) refl in
    sym so_far ∙ one

pub areas_done : (count i : ℕ) (before : Option AreaHead) (seen : Lists) (at : At) (total : AfterAreas) → count ≤ i
    → areas_from (count - i) before seen at ≡ total → total ≡ Ok (seen, at)
unfolding areas_from
areas_done count i before seen at total le so_far =
    let k : count - i ≡ 0 = omega arith in
    let one : areas_from (count - i) before seen at ≡ Ok (seen, at) = rw k refl in
    sym so_far ∙ one
