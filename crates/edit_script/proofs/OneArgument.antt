-- One argument of a command that was read: it is the text of its value, which is in range.
use Rattle.std.proofs.Common.{◌≡◌, ℕ, ◌+◌, ◌^◌, ◌<◌, cond, eqb, leb, List, [], ◌∷◌, Option, Some}
use Rattle.std.proofs.Common.{None, Result, Ok, Err, refl, sym, ap, ◌∙◌, subst, arith, inl, inr}
use Rattle.std.specs.Prelude.{decimal, ◌&&◌, codes, ok_or, bytes_eq}
use Rattle.std.specs.List.{slice_split, join_with_byte}
use Rattle.std.proofs.lemmas.List.Splits.{join_with_byte-slice_split}
use Rattle.std.proofs.lemmas.Slice.Eq.{bytes_eq-Decides}
use Rattle.std.proofs.lemmas.Bool.{cases_Bool, and_parts, cond-true, cond-false, leb-true}
use Rattle.lsa_codec.specs.declared.address.Addr.{Addr}
use Rattle.lsa_codec.specs.declared.address.AreaId.{AreaId}
use Rattle.lsa_codec.specs.declared.address.RouterId.{RouterId}
use Rattle.lsa_codec.specs.Prefix.{Net, IsNet, net_of, is_masked}
use Rattle.lsa_codec.specs.Spelling.{address_text, prefix_text}
use Rattle.text_words.specs.Numbers.{number_up_to}
use Rattle.text_words.specs.Addresses.{address_of}
use Rattle.text_words.proofs.OptionLemmas.{then_some}
use Rattle.text_words.proofs.NumberLemmas.{number_spelled}
use Rattle.text_words.proofs.AddressLemmas.{address_spelled}
use Rattle.edit_script.specs.declared.edit.MetricType.{MetricType}
use Rattle.edit_script.specs.declared.edit.MetricType.TheVariants.{Type1, Type2}
use Rattle.edit_script.specs.declared.fault.ScriptFault.{ScriptFault}
use Rattle.edit_script.specs.declared.fault.ScriptFault.TheVariants.{BadNumber, BadAddress, BadPrefix}
use Rattle.edit_script.specs.Words.{Word}
use Rattle.edit_script.specs.Arguments.{two_parts, prefix_of, prefix_of_parts}
use Rattle.edit_script.specs.Reading.{Reads, ◌>>=◌, made, number, address, addr, prefix, metric_type}
use Rattle.edit_script.specs.Spelling.{type_text, IsPrefix}
use Rattle.edit_script.proofs.Prefixes.{prefix_joined}

-- ---- what a result of several steps shows of each step

pub then_ok : {A B : Type 0} (r : Result A ScriptFault) (f : A → Result B ScriptFault) (y : B) → (r >>= f) ≡ Ok y
    → (x : A) × ((r ≡ Ok x) × (f x ≡ Ok y))
then_ok (Ok x) f y h = (x, (refl, h))
then_ok (Err fault) f y h = absurd cc

abbrev pure : {A : Type 0} → A → Result A ScriptFault
pure x = Ok x

pub same_ok : {A : Type 0} (x y : A) → pure x ≡ pure y → x ≡ y
same_ok x y h = cc

-- ---- prefixes

pub two_same : (a b c d : Word) → a ≡ c → b ≡ d → a ∷ b ∷ [] ≡ c ∷ d ∷ []
two_same a b c d first second = rw (first, second) refl

two_parts_are : (parts : List Word) (p : Word × Word) → two_parts parts ≡ Some p → parts ≡ p.0 ∷ p.1 ∷ []
two_parts_are [] p h = absurd cc
two_parts_are (a ∷ []) p h = absurd cc
two_parts_are (a ∷ b ∷ []) p h = let same : (a, b) ≡ p = cc in ap (λ (q : Word × Word). q.0 ∷ q.1 ∷ []) same
two_parts_are (a ∷ b ∷ c ∷ parts) p h = absurd cc

abbrev some_net : Net → Option Net
some_net net = Some net

abbrev no_net : Option Net
no_net = None

-- an address and a length that make a prefix
record Makes (addr len : ℕ) (net : Net) : Type 0 where
  is : (let made : Net = record { addr = record { 0 = addr }; len = len } in made) ≡ net
  sound : IsNet net

made_of : (addr len : ℕ) (net : Net) → net_of (record { 0 = addr }) len ≡ Some net → Makes addr len net
made_of addr len net h =
    elim (cases_Bool (leb len 32 && is_masked (record { 0 = addr }) len)) [
      | inl holds ↦
          let made : Net = record { addr = record { 0 = addr }; len = len } in
          let both = and_parts (leb len 32) (is_masked (record { 0 = addr }) len) holds in
          let found : some_net made ≡ some_net net = sym (cond-true _ _ _ holds) ∙ h in
          let is : made ≡ net = cc in
          record { is = is; sound = subst IsNet is (record { short = leb-true len 32 both.0; masked = both.1 }) }
      | inr fails ↦ absurd (let found : no_net ≡ some_net net = sym (cond-false _ _ _ fails) ∙ h in cc)
    ]

text_of_parts : (addr len : ℕ) (net : Net) → net_of (record { 0 = addr }) len ≡ Some net
    → join_with_byte 47 (address_text addr ∷ decimal len ∷ []) ≡ prefix_text net
text_of_parts addr len net h = sym (prefix_joined (record { addr = record { 0 = addr }; len = len })) ∙ ap prefix_text (made_of addr len net h).is

pub prefix_spelled : (word : Word) (net : Net) → prefix_of word ≡ Some net → (word ≡ prefix_text net) × IsPrefix net
unfolding prefix_of_parts
prefix_spelled word net h =
    let parts = then_some (two_parts (slice_split (λ b. eqb b 47) word)) _ net h in
    let p = parts.0 in
    let addr = then_some (address_of p.0) _ net parts.1.1 in
    let len = then_some (number_up_to 32 p.1) _ net addr.1.1 in
    let a = address_spelled p.0 addr.0 addr.1.0 in
    let l = number_spelled 32 p.1 len.0 (omega arith) len.1.0 in
    let split : slice_split (λ b. eqb b 47) word ≡ address_text addr.0 ∷ decimal len.0 ∷ [] = two_parts_are _ p parts.1.0
    ∙ two_same _ _ _ _ a.0 l.0 in
    let made = made_of addr.0 len.0 net len.1.1 in
    let small : net.addr.0 < 2 ^ 32 = subst (λ (m : Net). m.addr.0 < 2 ^ 32) made.is a.1 in (
      sym (join_with_byte-slice_split 47 word) ∙ ap (join_with_byte 47) split ∙ text_of_parts addr.0 len.0 net len.1.1,
      record { addr = small; prefix = made.sound },
    )

-- ---- one argument, as the line is read

pub of_ok : {A : Type 0} (o : Option A) (fault : ScriptFault) (x : A) → ok_or o fault ≡ Ok x → o ≡ Some x
of_ok None fault x h = absurd cc
of_ok {A} (Some y) fault x h = let same : y ≡ x = cc in ap (λ (z : A). Some z) same

pub number_read : (max past : ℕ) (word : Word) (n : ℕ) → past ≡ max + 1 → max < 2 ^ 64 → number max word ≡ Ok n → (word ≡ decimal n) × (n < past)
number_read max past word n next small h =
    let is = number_spelled max word n small (of_ok (number_up_to max word) BadNumber n h) in
    (is.0, omega (arith, is.1))

pub address_read : {A : Type 0} (make : ℕ → A) (number : A → ℕ) → ((n : ℕ) → number (make n) ≡ n) → (word : Word) (x : A)
    → made make (address word) ≡ Ok x → (word ≡ address_text (number x)) × (number x < 2 ^ 32)
address_read make number kept word x h =
    let found = then_ok (address word) _ x h in
    let is = address_spelled word found.0 (of_ok (address_of word) BadAddress found.0 found.1.0) in
    let same : found.0 ≡ number x = sym (kept found.0) ∙ ap number (same_ok (make found.0) x found.1.1) in
    (is.0 ∙ ap address_text same, subst (λ (n : ℕ). n < 2 ^ 32) same is.1)

abbrev found_type : MetricType → Result MetricType ScriptFault
found_type type = Ok type

type_named : (name word : Word) (this : MetricType) (others : Result MetricType ScriptFault) (type : MetricType) → name ≡ type_text this
    → (others ≡ Ok type → word ≡ type_text type) → cond (bytes_eq word name) (found_type this) others ≡ Ok type → word ≡ type_text type
type_named name word this others type is_name at_other h =
    elim (cases_Bool (bytes_eq word name)) [
      | inl holds ↦
          let found : found_type this ≡ found_type type = sym (cond-true _ _ _ holds) ∙ h in
          let same : this ≡ type = cc in
          (bytes_eq-Decides word name).0 holds ∙ is_name ∙ ap type_text same
      | inr fails ↦ at_other (sym (cond-false _ _ _ fails) ∙ h)
    ]

pub type_read : (word : Word) (type : MetricType) → metric_type word ≡ Ok type → word ≡ type_text type
type_read word type h =
    type_named (codes "1") word Type1 _ type refl (type_named (codes "2") word Type2 _ type refl (λ e. absurd cc)) h

-- ---- the kinds of arguments

-- a kind of argument: how its word is read, the text of a value, and which values are in range; a word that is read is its value's text
pub record Kind (A : Type 0) : Type 1 where
  pub read : Reads A
  pub text : A → Word
  pub In : A → Type 0
  pub spelled : (word : Word) (x : A) → read word ≡ Ok x → (word ≡ text x) × In x

-- a number below `past`, which comes after the greatest one
abbrev numbers : (max past : ℕ) → past ≡ max + 1 → max < 2 ^ 64 → Kind ℕ
numbers max past next small = record {
  read = number max;
  text = decimal;
  In = λ n. n < past;
  spelled = λ word n h. number_read max past word n next small h;
}

abbrev pub numbers16 : Kind ℕ
numbers16 = numbers 65535 (2 ^ 16) (omega arith) (omega arith)

abbrev pub metrics24 : Kind ℕ
metrics24 = numbers 16777215 (2 ^ 24) (omega arith) (omega arith)

abbrev pub numbers32 : Kind ℕ
numbers32 = numbers 4294967295 (2 ^ 32) (omega arith) (omega arith)

-- what is made of an address
abbrev addresses : {A : Type 0} (make : ℕ → A) (number : A → ℕ) → ((n : ℕ) → number (make n) ≡ n) → Kind A
addresses make number kept = record {
  read = λ word. made make (address word);
  text = λ x. address_text (number x);
  In = λ x. number x < 2 ^ 32;
  spelled = λ word x h. address_read make number kept word x h;
}

abbrev pub areas : Kind AreaId
areas = addresses (λ (n : ℕ). let area : AreaId = record { 0 = n } in area) (λ (area : AreaId). area.0) (λ n. refl)

abbrev pub routers : Kind RouterId
routers = addresses (λ (n : ℕ). let router : RouterId = record { 0 = n } in router) (λ (router : RouterId). router.0) (λ n. refl)

abbrev pub addrs : Kind Addr
addrs = addresses (λ (n : ℕ). let addr : Addr = record { 0 = n } in addr) (λ (addr : Addr). addr.0) (λ n. refl)

abbrev pub prefixes : Kind Net
prefixes = record {
  read = prefix;
  text = prefix_text;
  In = IsPrefix;
  spelled = λ word net h. prefix_spelled word net (of_ok (prefix_of word) BadPrefix net h);
}

abbrev pub types : Kind MetricType
types = record { read = metric_type; text = type_text; In = λ type. Unit {0}; spelled = λ word type h. (type_read word type h, tt) }
