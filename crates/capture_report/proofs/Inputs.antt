-- Files that are read one after another.
use Rattle.std.proofs.Common.{◌≡◌, ◌≢◌, ◌∙◌, sym, ap, subst, refl, ℕ, suc, ◌+◌, ◌<◌, add-zero, Bool, true, false, arith}
use Rattle.std.proofs.Common.{drop-cons, take-append-drop, List, [], ◌∷◌, ◌++◌, length, get_or, set, take, drop, map, Option, Result, Ok, Err}
use Rattle.std.specs.Prelude.{IfSome, IfErr}
use Rattle.std.specs.List.{AllZip}
use Rattle.std.proofs.lemmas.List.{drop-drop, drop-set-lt, get_or-drop, map-append, take_more}
use Rattle.capture_report.specs.declared.fault.RunFault.{RunFault}
use Rattle.capture_report.specs.declared.fault.RunFault.TheVariants.{Read, TooLarge, Refused, Join, Write, OutOfMemory}
use Rattle.capture_report.specs.Runs.{AreParsed, IsFileEnd, IsInputEnd, known}
use Rattle.capture_report.specs.steps.Inputs.{IsReadEnd}
use Rattle.capture_report.proofs.Parts.{zip_push}
use Rattle.network_files.specs.declared.parsed_file.ParsedFile.{ParsedFile}
use Rattle.network_files.specs.ParsedFiles.{IsFileOf}
use Rattle.host_io.specs.declared.watch.Watched.{Watched}
use Rattle.host_io.specs.Watched.{inner_of}

-- ---- pairs

zip_length : {X Y : Type 0} (R : X → Y → Type 0) (xs : List X) (ys : List Y) → AllZip R xs ys → length xs ≡ length ys
zip_length R [] [] all = refl
zip_length R [] (b ∷ ys) all = absurd all
zip_length R (a ∷ xs) [] all = absurd all
zip_length R (a ∷ xs) (b ∷ ys) all = ap suc (zip_length R xs ys all.1)

-- ---- the file that is read next

-- where lists have the same rest, they have the same next item
same_item : {X : Type 0} (xs ys : List X) (i : ℕ) (d : X) → drop i xs ≡ drop i ys → get_or xs i d ≡ get_or ys i d
same_item xs ys i d e =
    ap (λ k. get_or xs k d) (sym (add-zero i)) ∙ sym (get_or-drop i xs 0 d) ∙ ap (λ zs. get_or zs 0 d) e
    ∙ get_or-drop i ys 0 d ∙ ap (λ k. get_or ys k d) (add-zero i)

pub rest_more : {X : Type 0} (xs ys : List X) (i : ℕ) (x : X) → drop i xs ≡ drop i ys → drop (i + 1) (set xs i x) ≡ drop (i + 1) ys
rest_more xs ys i x e =
    drop-set-lt (i + 1) xs i x (omega arith) ∙ sym (drop-drop 1 i xs) ∙ ap (drop 1) e ∙ drop-drop 1 i ys

module _ {R : Type 0} (remaining : R → Option (List ℕ)) where
  abbrev item : Watched R → Option (List ℕ)
  item file = remaining (inner_of file)

  known_more : (xs ys : List (Watched R)) (i : ℕ) (x : Watched R) → i < length ys → drop i xs ≡ drop i ys → x ≡ get_or xs i x
      → known remaining (take (i + 1) ys) ≡ known remaining (take i ys) ++ remaining (inner_of x) ∷ []
  known_more xs ys i x l e is =
      ap (map item) (take_more ys i x l ∙ ap (λ z. take i ys ++ z ∷ []) (sym (same_item xs ys i x e) ∙ sym is))
      ∙ map-append item (take i ys) (x ∷ [])

  split_at : (xs ys : List (Watched R)) (i : ℕ) (x : Watched R) → i < length ys → drop i xs ≡ drop i ys → x ≡ get_or xs i x
      → known remaining ys ≡ known remaining (take i ys) ++ (remaining (inner_of x) ∷ known remaining (drop (suc i) ys))
  split_at xs ys i x l e is =
      let next : drop i ys ≡ x ∷ drop (suc i) ys = drop-cons ys i x l ∙ ap (λ z. z ∷ drop (suc i) ys) (sym (same_item xs ys i x e) ∙ sym is) in
      ap (map item) (sym (take-append-drop i ys) ∙ ap (λ zs. take i ys ++ zs) next)
      ∙ map-append item (take i ys) (x ∷ drop (suc i) ys)

module _ {R A : Type 0} (remaining : R → Option (List ℕ)) where
  pub parsed_more : (xs ys : List (Watched R)) (i : ℕ) (x : Watched R) (old new : List (ParsedFile A)) (parsed : ParsedFile A) → i < length ys
      → drop i xs ≡ drop i ys → x ≡ get_or xs i x → AreParsed (known remaining (take i ys)) old
      → IfSome (remaining (inner_of x)) (λ bytes. IsFileOf bytes parsed) → new ≡ old ++ parsed ∷ []
      → AreParsed (known remaining (take (i + 1) ys)) new
  parsed_more xs ys i x old new parsed l e is all one pushed =
      subst (λ ts. AreParsed (known remaining (take (i + 1) ys)) ts) (sym pushed)
      (subst (λ ks. AreParsed ks (old ++ parsed ∷ [])) (sym (known_more remaining xs ys i x l e is))
      (zip_push _ (known remaining (take i ys)) old _ parsed all one))

  -- ---- the file that is not read

  input_end : (xs ys : List (Watched R)) (i index : ℕ) (x : Watched R) (parsed : List (ParsedFile A)) (fault : RunFault) → i < length ys
      → drop i xs ≡ drop i ys → x ≡ get_or xs i x → AreParsed (known remaining (take i ys)) parsed → index ≡ length parsed
      → IsFileEnd A (remaining (inner_of x)) index fault → IsInputEnd A (known remaining ys) fault
  input_end xs ys i index x parsed fault l e is all at ended = record {
    front = known remaining (take i ys);
    bytes = remaining (inner_of x);
    rest = known remaining (drop (suc i) ys);
    split = split_at remaining xs ys i x l e is;
    parsed = parsed;
    before = all;
    ended = subst (λ n. IsFileEnd A (remaining (inner_of x)) n fault) (at ∙ sym (zip_length _ (known remaining (take i ys)) parsed all)) ended;
  }

  pub read_end : (xs ys : List (Watched R)) (i index : ℕ) (x : Watched R) (parsed : List (ParsedFile A)) (fault : RunFault) → i < length ys
      → drop i xs ≡ drop i ys → x ≡ get_or xs i x → AreParsed (known remaining (take i ys)) parsed → index ≡ length parsed
      → IsFileEnd A (remaining (inner_of x)) index fault → IsReadEnd A (known remaining ys) fault
  read_end xs ys i index x parsed (Read file) l e is all at ended = input_end xs ys i index x parsed (Read file) l e is all at ended
  read_end xs ys i index x parsed (TooLarge file) l e is all at ended = input_end xs ys i index x parsed (TooLarge file) l e is all at ended
  read_end xs ys i index x parsed (Refused file f) l e is all at ended = input_end xs ys i index x parsed (Refused file f) l e is all at ended
  read_end xs ys i index x parsed (Join f) l e is all at ended = absurd ended
  read_end xs ys i index x parsed Write l e is all at ended = absurd ended
  read_end xs ys i index x parsed OutOfMemory l e is all at ended = tt

-- ---- readers that have not failed

pub IfErr-same : {X E : Type 0} (r : Result X E) (e : E) (P : E → Type 0) → r ≡ Err e → P e → IfErr r P
IfErr-same {X} {E} r e P same p = let Q : Result X E → Type 0 = λ (q : Result X E). IfErr q P in subst Q (sym same) p

pub unfailed_by_ok : {X E : Type 0} (b : Bool) (x : X) (e : E) → (b ≡ true → Ok x ≡ Err e) → b ≡ false
unfailed_by_ok true x e failed = let bad : Ok x ≡ Err e = failed refl in absurd cc
unfailed_by_ok false x e failed = refl

pub unfailed_by_err : {X Y : Type 0} (b : Bool) (r : Result X RunFault) (s : Result Y RunFault) (e : RunFault) (index : ℕ) → r ≡ Err e → s ≡ Err e
    → ((k : ℕ) → r ≢ Err (Read k)) → (b ≡ true → s ≡ Err (Read index)) → b ≡ false
unfailed_by_err true r s e index same given other failed =
    let is : s ≡ Err (Read index) = failed refl in
    let at : e ≡ Read index = cc in absurd (other index (same ∙ ap Err at))
unfailed_by_err false r s e index same given other failed = refl
