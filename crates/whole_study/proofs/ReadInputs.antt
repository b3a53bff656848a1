-- The inputs that were read are those that are given.
use Rattle.std.proofs.Common.{◌≡◌, ◌∙◌, sym, ap, subst, refl, ℕ, suc, zero, ◌+◌, ◌<◌, Bool, true, false, List, [], ◌∷◌, ◌++◌, length, get_or, set, take, drop, map, add-zero, Option, None, Some, arith}
use Rattle.std.specs.Prelude.{◌||◌, All, IfSome, is_some}
use Rattle.std.proofs.lemmas.List.{drop-drop, drop-set-lt, get_or-drop, take_more}
use Rattle.std.proofs.lemmas.Bool.{lt-ltb}
use Rattle.std.specs.List.{AllZip, list_any}
use Rattle.host_io.specs.Watched.{inner_of}
use Rattle.host_io.specs.declared.watch.Watched.{Watched}
use Rattle.host_io.specs.WholeText.{IsAll, IsLonger}
use Rattle.whole_run.specs.Streams.{contents_of}
use Rattle.whole_study.specs.Given.{Given, NamedText}
use Rattle.whole_study.specs.Streams.{HasBytes, HasText}
use Rattle.whole_study.specs.Calls.{most}
use Rattle.whole_study.specs.steps.Texts.{IsLongIn, IsReadOf, IsTextOf, named_text}
use Rattle.whole_study.specs.declared.inputs.StudyFile.{StudyFile}
use Rattle.whole_study.specs.declared.inputs.StudyText.{StudyText}

pub given_same : (a b : Given) → a.dump ≡ b.dump → a.baseline ≡ b.baseline → a.names ≡ b.names → a.studies ≡ b.studies → a ≡ b
given_same a b d e n s =
    let dump : a ≡ record a { dump = b.dump } = ap (λ (x : List ℕ). let g : Given = record a { dump = x } in g) d in
    let baseline : record a { dump = b.dump } ≡ record b { names = a.names; studies = a.studies } =
    ap (λ (x : Option (List ℕ)). let g : Given = record a { dump = b.dump; baseline = x } in g) e in
    let names : record b { names = a.names; studies = a.studies } ≡ record b { studies = a.studies } =
    ap (λ (x : Option (List ℕ)). let g : Given = record b { names = x; studies = a.studies } in g) n in
    let studies : record b { studies = a.studies } ≡ b = ap (λ (x : List NamedText). let g : Given = record b { studies = x } in g) s in
    dump ∙ baseline ∙ names ∙ studies

-- all bytes of a reader
pub all_known : (known : Option (List ℕ)) (bytes all : List ℕ) → known ≡ Some all → IsAll known bytes → bytes ≡ all
all_known known bytes all e is = subst (λ (k : Option (List ℕ)). IsAll k bytes) e is

none_where : (bytes : Option (List ℕ)) → is_some bytes ≡ false → bytes ≡ None
none_where None e = refl
none_where (Some b) e = absurd cc

-- those of a reader that may be given
any_known : (bytes given known : Option (List ℕ)) → is_some bytes ≡ is_some given → known ≡ given → IfSome known (λ k. bytes ≡ Some k) → bytes ≡ given
any_known bytes None known same e is = none_where bytes same
any_known bytes (Some b) known same e is = subst (λ (k : Option (List ℕ)). IfSome k (λ x. bytes ≡ Some x)) e is

pub read_known : {R : Type 0} (remaining : R → Option (List ℕ)) (reader : Option (Watched R)) (bytes given : Option (List ℕ))
    → HasBytes remaining reader given → IsReadOf remaining reader bytes → bytes ≡ given
read_known remaining reader bytes given has read = any_known bytes given (contents_of remaining reader) (read.given ∙ has.given) has.same read.same

-- the studies
pub texts_known : {S A : Type 0} (remaining : S → Option (List ℕ)) (files : List (StudyFile S)) (texts : List (StudyText A)) (studies : List NamedText)
    → AllZip (IsTextOf remaining) files texts → AllZip (HasText remaining) files studies → map named_text texts ≡ studies
texts_known remaining [] [] [] are have = refl
texts_known remaining [] [] (s ∷ studies) are have = absurd have
texts_known remaining [] (t ∷ texts) studies are have = absurd are
texts_known remaining (f ∷ files) [] studies are have = absurd are
texts_known remaining (f ∷ files) (t ∷ texts) [] are have = absurd have
texts_known remaining (f ∷ files) (t ∷ texts) (s ∷ studies) are have =
    let name : t.name.now ≡ s.name = are.0.name ∙ have.0.name in
    let text : t.text.items ≡ s.text = all_known (remaining (inner_of f.reader)) t.text.items s.text have.0.text are.0.text in
    let study : named_text t ≡ s =
    ap (λ (x : List ℕ). let n : NamedText = record { name = x; text = t.text.items } in n) name
    ∙ ap (λ (x : List ℕ). let n : NamedText = record { name = s.name; text = x } in n) text in
    ap (λ (x : NamedText). x ∷ map named_text texts) study ∙ ap (λ (xs : List NamedText). s ∷ xs) (texts_known remaining files texts studies are.1 have.1)

-- ---- a study that is too long

any_first : (a b : Bool) → a ≡ true → (a || b) ≡ true
any_first true b e = refl
any_first false b e = absurd cc

any_second : (a b : Bool) → b ≡ true → (a || b) ≡ true
any_second true b e = refl
any_second false b e = e

long_known : (known : Option (List ℕ)) (text : List ℕ) → known ≡ Some text → IsLonger known most → most < length text
long_known known text e longer = subst (λ (k : Option (List ℕ)). IsLonger k most) e longer

pub long_at : {S : Type 0} (remaining : S → Option (List ℕ)) (files : List (StudyFile S)) (i : ℕ) (d : StudyFile S) → i < length files
    → IsLonger (remaining (inner_of (get_or files i d).reader)) most → IsLongIn remaining files
long_at remaining [] i d within longer studies have = absurd (omega (arith, within))
long_at remaining (f ∷ files) i d within longer [] have = absurd have
long_at remaining (f ∷ files) zero d within longer (s ∷ studies) have =
    any_first _ _ (lt-ltb most (length s.text) (long_known (remaining (inner_of f.reader)) s.text have.0.text longer))
long_at remaining (f ∷ files) (suc i) d within longer (s ∷ studies) have =
    any_second _ _ (long_at remaining files i d (omega (arith, within)) longer studies have.1)

-- ---- studies, one after another

zip_push : {X Y : Type 0} (R : X → Y → Type 0) (xs : List X) (ys : List Y) (x : X) (y : Y) → AllZip R xs ys → R x y → AllZip R (xs ++ x ∷ []) (ys ++ y ∷ [])
zip_push R [] [] x y all one = (one, tt)
zip_push R [] (b ∷ ys) x y all one = absurd all
zip_push R (a ∷ xs) [] x y all one = absurd all
zip_push R (a ∷ xs) (b ∷ ys) x y all one = (all.0, zip_push R xs ys x y all.1 one)

-- where lists have the same rest, they have the same next item
same_item : {X : Type 0} (xs ys : List X) (i : ℕ) (d : X) → drop i xs ≡ drop i ys → get_or xs i d ≡ get_or ys i d
same_item xs ys i d e =
    ap (λ k. get_or xs k d) (sym (add-zero i)) ∙ sym (get_or-drop i xs 0 d) ∙ ap (λ zs. get_or zs 0 d) e
    ∙ get_or-drop i ys 0 d ∙ ap (λ k. get_or ys k d) (add-zero i)

pub rest_more : {X : Type 0} (xs ys : List X) (i : ℕ) (x : X) → drop i xs ≡ drop i ys → drop (i + 1) (set xs i x) ≡ drop (i + 1) ys
rest_more xs ys i x e =
    drop-set-lt (i + 1) xs i x (omega arith) ∙ sym (drop-drop 1 i xs) ∙ ap (drop 1) e ∙ drop-drop 1 i ys

-- the text of one more study was read
pub texts_more : {S A : Type 0} (remaining : S → Option (List ℕ)) (xs ys : List (StudyFile S)) (i : ℕ) (x : StudyFile S)
    (old new : List (StudyText A)) (text : StudyText A) → i < length ys → drop i xs ≡ drop i ys → x ≡ get_or xs i x
    → AllZip (IsTextOf remaining) (take i ys) old → IsTextOf remaining x text → new ≡ old ++ text ∷ []
    → AllZip (IsTextOf remaining) (take (i + 1) ys) new
texts_more remaining xs ys i x old new text l e is all one pushed =
    let next : take (i + 1) ys ≡ take i ys ++ x ∷ [] =
    take_more ys i x l ∙ ap (λ z. take i ys ++ z ∷ []) (sym (same_item xs ys i x e) ∙ sym is) in
    subst (λ ts. AllZip (IsTextOf remaining) (take (i + 1) ys) ts) (sym pushed)
    (subst (λ fs. AllZip (IsTextOf remaining) fs (old ++ text ∷ [])) (sym next) (zip_push (IsTextOf remaining) (take i ys) old x text all one))

-- the study that is read next is too long
pub long_next : {S : Type 0} (remaining : S → Option (List ℕ)) (xs ys : List (StudyFile S)) (i : ℕ) (x : StudyFile S) → i < length ys
    → drop i xs ≡ drop i ys → x ≡ get_or xs i x → IsLonger (remaining (inner_of x.reader)) most → IsLongIn remaining ys
long_next remaining xs ys i x l e is longer =
    long_at remaining ys i x l
    (subst (λ (f : StudyFile _). IsLonger (remaining (inner_of f.reader)) most) (is ∙ same_item xs ys i x e) longer)

-- ---- readers that have failed

pub all_head : {X : Type 0} (P : X → Type 0) (x : X) (xs : List X) → All P (x ∷ xs) → P x
all_head P x xs all = all 0 x (omega arith)

pub all_tail : {X : Type 0} (P : X → Type 0) (x : X) (xs : List X) → All P (x ∷ xs) → All P xs
all_tail P x xs all = λ k d within. all (suc k) d (omega (arith, within))

pub any_none : {X : Type 0} (p : X → Bool) (xs : List X) → All (λ x. p x ≡ false) xs → list_any p xs ≡ false
any_none p [] all = refl
any_none p (x ∷ xs) all =
    any_neither (p x) (list_any p xs) (all_head (λ y. p y ≡ false) x xs all) (any_none p xs (all_tail (λ y. p y ≡ false) x xs all))
  where
    any_neither : (a b : Bool) → a ≡ false → b ≡ false → (a || b) ≡ false
    any_neither true b e f = absurd cc
    any_neither false b e f = f

-- of readers that have not failed one is read
pub any_set : {X : Type 0} (p : X → Bool) (xs : List X) (i : ℕ) (x : X) → All (λ x. p x ≡ false) xs → i < length xs → list_any p (set xs i x) ≡ p x
any_set p [] i x all within = absurd (omega (arith, within))
any_set p (y ∷ xs) zero x all within = or_none (p x) (list_any p xs) (any_none p xs (all_tail (λ z. p z ≡ false) y xs all))
  where
    or_none : (a b : Bool) → b ≡ false → (a || b) ≡ a
    or_none true b e = refl
    or_none false b e = e
any_set p (y ∷ xs) (suc i) x all within =
    ap (λ b. b || list_any p (set xs i x)) (all_head (λ z. p z ≡ false) y xs all)
    ∙ any_set p xs i x (all_tail (λ z. p z ≡ false) y xs all) (omega (arith, within))
