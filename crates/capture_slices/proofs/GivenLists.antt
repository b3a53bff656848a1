-- Files and lists in memory, one after another.
use Rattle.std.proofs.Common.{◌≡◌, ◌∙◌, sym, ap, subst, ℕ, ◌+◌, ◌<◌, Some, Result, Ok, Err, IfErr, IsErrAnd, inr, arith}
use Rattle.std.proofs.Common.{List, [], ◌∷◌, ◌++◌, take, map, length, get_or}
use Rattle.std.specs.Borrow.{Bor}
use Rattle.std.specs.Prelude.{option_map}
use Rattle.std.specs.List.{AllZip, slice_get}
use Rattle.std.specs.Str.{IsUtf8}
use Rattle.std.proofs.lemmas.List.{get_or-map, length-map, take_more}
use Rattle.std.proofs.lemmas.Option.{slice_get-get_or, slice_get-map}
use Rattle.std.proofs.lemmas.Slice.Zip.{all_zipped_more}
use Rattle.capture_report.specs.Runs.{AreParsed}
use Rattle.capture_slices.specs.Captured.{IsListEnd, IsListFault, IsListOf, IsNamesEnd}
use Rattle.capture_slices.specs.declared.fault.CaptureEnd.{CaptureEnd}
use Rattle.capture_slices.specs.declared.fault.CaptureEnd.TheVariants.{NotText}
use Rattle.capture_lines.specs.declared.fault.ExitFault.{ExitFault}
use Rattle.capture_lines.specs.declared.fault.ExitFault.TheVariants.{Memory}
use Rattle.lsdb_listing.specs.declared.list.PrintedList.{PrintedList}
use Rattle.network_files.specs.ParsedFiles.{IsFileOf}
use Rattle.network_files.specs.declared.parsed_file.ParsedFile.{ParsedFile}

-- ---- files

-- files with these bytes contain this, as far as readers of the bytes show it
pub parsed_of : {A : Type 0} (bytes : List (List ℕ)) (parsed : List (ParsedFile A)) → AreParsed (map (λ text. Some text) bytes) parsed
    → AllZip IsFileOf bytes parsed
parsed_of [] [] all = tt
parsed_of [] (file ∷ parsed) all = absurd all
parsed_of (text ∷ bytes) [] all = absurd all
parsed_of (text ∷ bytes) (file ∷ parsed) all = (all.0, parsed_of bytes parsed all.1)

module _ {X : Type 0} (f : X → List ℕ) (xs : List X) (i : ℕ) (d : X) (inside : i < length xs) where
  at : {Y : Type 0} (g : X → Y) → slice_get (map g xs) i ≡ Some (g (get_or xs i d))
  at g = slice_get-map g xs i ∙ ap (option_map g) (slice_get-get_or xs i d inside)

  -- the name at this place is not text
  pub names_end : {F : Type 0} (result : Result F CaptureEnd) (end : CaptureEnd) → IsErrAnd result (λ given. given ≡ end)
      → (end ≡ NotText) × (IsUtf8 (f (get_or xs i d)) → ⊥) → IfErr result (IsNamesEnd (map f xs))
  names_end (Ok x) end is other = tt
  names_end (Err e) end is other = subst (IsNamesEnd (map f xs)) (sym (is ∙ other.0)) (i, (f (get_or xs i d), (at f, other.1)))

  -- ---- lists

  one_more : take (i + 1) (map f xs) ≡ take i (map f xs) ++ f (get_or xs i d) ∷ []
  one_more =
      take_more (map f xs) i (f d) (omega (arith, inside, length-map xs f))
      ∙ ap (λ one. take i (map f xs) ++ one ∷ []) (get_or-map f xs i d (f d) inside)

  -- one more list is read
  pub lists_more : {A : Type 0} (old new : List (PrintedList A)) (list : PrintedList A) → AllZip IsListOf (take i (map f xs)) old
      → IsListOf (f (get_or xs i d)) list → new ≡ old ++ list ∷ [] → AllZip IsListOf (take (i + 1) (map f xs)) new
  lists_more old new list all one pushed =
      subst (λ read. AllZip IsListOf (take (i + 1) (map f xs)) read) (sym pushed)
      (subst (λ texts. AllZip IsListOf texts (old ++ list ∷ [])) (sym one_more)
      (all_zipped_more IsListOf (take i (map f xs)) old (f (get_or xs i d)) list all one))

  -- the list at this place is not read
  list_end : {A : Type 0} (name : X → Bor (List ℕ)) (read : List (PrintedList A)) (fault : ExitFault) → AllZip IsListOf (take i (map f xs)) read
      → IsListFault (name (get_or xs i d)) (f (get_or xs i d)) fault → IsListEnd A (map (λ one. (name one).now) xs) (map f xs) fault
  list_end name read fault all ended = record {
    index = i;
    name = name (get_or xs i d);
    bytes = f (get_or xs i d);
    has_name = at (λ one. (name one).now);
    has_bytes = at f;
    read = read;
    before = all;
    ended = ended;
  }

  -- memory runs out after the list at this place is read
  pub no_memory : {A F : Type 0} (name : X → Bor (List ℕ)) (read : List (PrintedList A)) (list : PrintedList A) (result : Result F ExitFault)
      → AllZip IsListOf (take i (map f xs)) read → IsListOf (f (get_or xs i d)) list → IsErrAnd result (λ fault. fault ≡ Memory)
      → IfErr result (IsListEnd A (map (λ one. (name one).now) xs) (map f xs))
  no_memory name read list (Ok x) all one is = tt
  no_memory name read list (Err fault) all one is = list_end name read fault all (inr (inr is))
