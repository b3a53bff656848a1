-- Arguments of a command that were read: each is the text of its value, which is in range.
use Rattle.std.proofs.Common.{◌≡◌, ℕ, ◌^◌, ◌<◌, List, [], ◌∷◌, Result, Ok, refl, sym, ap, ◌∙◌, subst}
use Rattle.std.specs.Prelude.{decimal}
use Rattle.lsa_codec.specs.declared.address.RouterId.{RouterId}
use Rattle.lsa_codec.specs.Spelling.{address_text}
use Rattle.edit_script.specs.declared.fault.ScriptFault.{ScriptFault}
use Rattle.edit_script.specs.Words.{Word}
use Rattle.edit_script.specs.Reading.{◌>>=◌, made, none_of, one_of, two_of, three_of, four_of, six_of}
use Rattle.edit_script.specs.Reading.{one_as, two_as, three_as, four_as, six_as, count_of, router_of}
use Rattle.edit_script.proofs.OneArgument.{then_ok, same_ok, two_same, Kind, numbers32, routers}

-- ---- words, one by one

pub three_same : (a b c d e f : Word) → a ≡ d → b ≡ e → c ≡ f → a ∷ b ∷ c ∷ [] ≡ d ∷ e ∷ f ∷ []
three_same a b c d e f first second third = rw (first, second, third) refl

pub four_same : (a b c d e f g h : Word) → a ≡ e → b ≡ f → c ≡ g → d ≡ h → a ∷ b ∷ c ∷ d ∷ [] ≡ e ∷ f ∷ g ∷ h ∷ []
four_same a b c d e f g h first second third fourth = rw (first, second, third, fourth) refl

pub six_same : (a b c d e f g h i j k l : Word) → a ≡ g → b ≡ h → c ≡ i → d ≡ j → e ≡ k → f ≡ l
    → a ∷ b ∷ c ∷ d ∷ e ∷ f ∷ [] ≡ g ∷ h ∷ i ∷ j ∷ k ∷ l ∷ []
six_same a b c d e f g h i j k l first second third fourth fifth sixth = rw (first, second, third, fourth, fifth, sixth) refl

-- ---- a given number of arguments

pub none_are : (arguments : List Word) (w : Unit {0}) → none_of arguments ≡ Ok w → arguments ≡ []
none_are [] w h = refl
none_are (a ∷ arguments) w h = absurd cc

pub one_is : (arguments : List Word) (word : Word) → one_of arguments ≡ Ok word → arguments ≡ word ∷ []
one_is [] w h = absurd cc
one_is (a ∷ []) w h = let same : a ≡ w = cc in ap (λ (x : Word). x ∷ []) same
one_is (a ∷ b ∷ arguments) w h = absurd cc

pub two_are : (arguments : List Word) (w : Word × Word) → two_of arguments ≡ Ok w → arguments ≡ w.0 ∷ w.1 ∷ []
two_are [] w h = absurd cc
two_are (a ∷ []) w h = absurd cc
two_are (a ∷ b ∷ []) w h = let same : (a, b) ≡ w = cc in ap (λ (q : Word × Word). q.0 ∷ q.1 ∷ []) same
two_are (a ∷ b ∷ c ∷ arguments) w h = absurd cc

pub three_are : (arguments : List Word) (w : Word × Word × Word) → three_of arguments ≡ Ok w → arguments ≡ w.0 ∷ w.1 ∷ w.2 ∷ []
three_are [] w h = absurd cc
three_are (a ∷ []) w h = absurd cc
three_are (a ∷ b ∷ []) w h = absurd cc
three_are (a ∷ b ∷ c ∷ []) w h = let same : (a, b, c) ≡ w = cc in ap (λ (q : Word × Word × Word). q.0 ∷ q.1 ∷ q.2 ∷ []) same
three_are (a ∷ b ∷ c ∷ d ∷ arguments) w h = absurd cc

pub four_are : (arguments : List Word) (w : Word × Word × Word × Word) → four_of arguments ≡ Ok w → arguments ≡ w.0 ∷ w.1 ∷ w.2 ∷ w.3 ∷ []
four_are [] w h = absurd cc
four_are (a ∷ []) w h = absurd cc
four_are (a ∷ b ∷ []) w h = absurd cc
four_are (a ∷ b ∷ c ∷ []) w h = absurd cc
four_are (a ∷ b ∷ c ∷ d ∷ []) w h = let same : (a, b, c, d) ≡ w = cc in ap (λ (q : Word × Word × Word × Word). q.0 ∷ q.1 ∷ q.2 ∷ q.3 ∷ []) same
four_are (a ∷ b ∷ c ∷ d ∷ e ∷ arguments) w h = absurd cc

pub six_are : (arguments : List Word) (w : Word × Word × Word × Word × Word × Word) → six_of arguments ≡ Ok w
    → arguments ≡ w.0 ∷ w.1 ∷ w.2 ∷ w.3 ∷ w.4 ∷ w.5 ∷ []
six_are [] w h = absurd cc
six_are (a ∷ []) w h = absurd cc
six_are (a ∷ b ∷ []) w h = absurd cc
six_are (a ∷ b ∷ c ∷ []) w h = absurd cc
six_are (a ∷ b ∷ c ∷ d ∷ []) w h = absurd cc
six_are (a ∷ b ∷ c ∷ d ∷ e ∷ []) w h = absurd cc
six_are (a ∷ b ∷ c ∷ d ∷ e ∷ f ∷ []) w h = let same : (a, b, c, d, e, f) ≡ w = cc in
    ap (λ (q : Word × Word × Word × Word × Word × Word). q.0 ∷ q.1 ∷ q.2 ∷ q.3 ∷ q.4 ∷ q.5 ∷ []) same
six_are (a ∷ b ∷ c ∷ d ∷ e ∷ f ∷ g ∷ arguments) w h = absurd cc

-- ---- arguments, each read as what it is

then_read : {A B : Type 0} (kind : Kind A) (word : Word) (f : A → Result B ScriptFault) (y : B) → (kind.read word >>= f) ≡ Ok y
    → (x : A) × ((word ≡ kind.text x) × kind.In x × (f x ≡ Ok y))
then_read kind word f y h =
    let found = then_ok (kind.read word) f y h in
    let is = kind.spelled word found.0 found.1.0 in
    (found.0, (is.0, is.1, found.1.1))

pub one_read : {A : Type 0} (a : Kind A) (arguments : List Word) (x : A) → one_as a.read arguments ≡ Ok x
    → (arguments ≡ a.text x ∷ []) × a.In x
one_read a arguments x h =
    let word = then_ok (one_of arguments) a.read x h in
    let is = a.spelled word.0 x word.1.1 in
    (one_is arguments word.0 word.1.0 ∙ ap (λ (w : Word). w ∷ []) is.0, is.1)

pub two_read : {A B : Type 0} (a : Kind A) (b : Kind B) (arguments : List Word) (x : A × B)
    → two_as a.read b.read arguments ≡ Ok x
    → (arguments ≡ a.text x.0 ∷ b.text x.1 ∷ []) × (a.In x.0 × b.In x.1)
two_read a b arguments x h =
    let words = then_ok (two_of arguments) _ x h in
    let first = then_read a words.0.0 _ x words.1.1 in
    let second = then_read b words.0.1 _ x first.1.2 in
    let same : (first.0, second.0) ≡ x = same_ok _ x second.1.2 in
    rw (← same)
    (two_are arguments words.0 words.1.0 ∙ two_same _ _ _ _ first.1.0 second.1.0, (first.1.1, second.1.1))

pub three_read : {A B C : Type 0} (a : Kind A) (b : Kind B) (c : Kind C) (arguments : List Word) (x : A × B × C)
    → three_as a.read b.read c.read arguments ≡ Ok x
    → (arguments ≡ a.text x.0 ∷ b.text x.1 ∷ c.text x.2 ∷ []) × (a.In x.0 × b.In x.1 × c.In x.2)
three_read a b c arguments x h =
    let words = then_ok (three_of arguments) _ x h in
    let first = then_read a words.0.0 _ x words.1.1 in
    let second = then_read b words.0.1 _ x first.1.2 in
    let third = then_read c words.0.2 _ x second.1.2 in
    let same : (first.0, second.0, third.0) ≡ x = same_ok _ x third.1.2 in
    rw (← same)
    (three_are arguments words.0 words.1.0 ∙ three_same _ _ _ _ _ _ first.1.0 second.1.0 third.1.0, (first.1.1, second.1.1, third.1.1))

pub four_read : {A B C D : Type 0} (a : Kind A) (b : Kind B) (c : Kind C) (d : Kind D) (arguments : List Word) (x : A × B × C × D)
    → four_as a.read b.read c.read d.read arguments ≡ Ok x
    → (arguments ≡ a.text x.0 ∷ b.text x.1 ∷ c.text x.2 ∷ d.text x.3 ∷ []) × (a.In x.0 × b.In x.1 × c.In x.2 × d.In x.3)
four_read a b c d arguments x h =
    let words = then_ok (four_of arguments) _ x h in
    let first = then_read a words.0.0 _ x words.1.1 in
    let second = then_read b words.0.1 _ x first.1.2 in
    let third = then_read c words.0.2 _ x second.1.2 in
    let fourth = then_read d words.0.3 _ x third.1.2 in
    let same : (first.0, second.0, third.0, fourth.0) ≡ x = same_ok _ x fourth.1.2 in
    rw (← same) (
      four_are arguments words.0 words.1.0 ∙ four_same _ _ _ _ _ _ _ _ first.1.0 second.1.0 third.1.0 fourth.1.0,
      (first.1.1, second.1.1, third.1.1, fourth.1.1),
    )

pub six_read : {A B C D E F : Type 0} (a : Kind A) (b : Kind B) (c : Kind C) (d : Kind D) (e : Kind E) (f : Kind F)
    (arguments : List Word) (x : A × B × C × D × E × F) → six_as a.read b.read c.read d.read e.read f.read arguments ≡ Ok x
    → (arguments ≡ a.text x.0 ∷ b.text x.1 ∷ c.text x.2 ∷ d.text x.3 ∷ e.text x.4 ∷ f.text x.5 ∷ [])
    × (a.In x.0 × b.In x.1 × c.In x.2 × d.In x.3 × e.In x.4 × f.In x.5)
six_read a b c d e f arguments x h =
    let words = then_ok (six_of arguments) _ x h in
    let first = then_read a words.0.0 _ x words.1.1 in
    let second = then_read b words.0.1 _ x first.1.2 in
    let third = then_read c words.0.2 _ x second.1.2 in
    let fourth = then_read d words.0.3 _ x third.1.2 in
    let fifth = then_read e words.0.4 _ x fourth.1.2 in
    let sixth = then_read f words.0.5 _ x fifth.1.2 in
    let same : (first.0, second.0, third.0, fourth.0, fifth.0, sixth.0) ≡ x = same_ok _ x sixth.1.2 in
    rw (← same) (
      six_are arguments words.0 words.1.0
          ∙ six_same _ _ _ _ _ _ _ _ _ _ _ _ first.1.0 second.1.0 third.1.0 fourth.1.0 fifth.1.0 sixth.1.0,
      (first.1.1, second.1.1, third.1.1, fourth.1.1, fifth.1.1, sixth.1.1),
    )

pub count_read : (arguments : List Word) (count : ℕ) → count_of arguments ≡ Ok count → (arguments ≡ decimal count ∷ []) × (count < 2 ^ 32)
unfolding count_of
count_read = one_read numbers32

pub router_read : (arguments : List Word) (router : RouterId) → router_of arguments ≡ Ok router
    → (arguments ≡ address_text router.0 ∷ []) × (router.0 < 2 ^ 32)
unfolding router_of
router_read = one_read routers

-- ---- what is made of arguments

-- the words are those of a value, which is in range
pub record IsOf {B : Type 0} (texts : B → List Word) (In : B → Type 0) (line : List Word) (y : B) : Type 0 where
  pub words : line ≡ texts y
  pub range : In y

-- a value that is made of what its arguments spell
pub of_spelled : {A B : Type 0} {texts : B → List Word} {In : B → Type 0} (name : Word) (make : A → B) (own : A → List Word)
    (read : Result A ScriptFault) (arguments : List Word) (y : B) → ((x : A) → read ≡ Ok x → (arguments ≡ own x) × In (make x))
    → ((x : A) → texts (make x) ≡ name ∷ own x) → made make read ≡ Ok y → IsOf texts In (name ∷ arguments) y
of_spelled {texts = texts} {In = In} name make own read arguments y spelled words h =
    let found = then_ok read _ y h in
    let same : make found.0 ≡ y = same_ok _ y found.1.1 in
    let is = spelled found.0 found.1.0 in
    subst (IsOf texts In (name ∷ arguments)) same
    (record { words = ap (λ (ws : List Word). name ∷ ws) is.0 ∙ sym (words found.0); range = is.1 })
