-- The line of an edit has no line feed.
use Rattle.std.proofs.Common.{◌≡◌, ◌≢◌, ℕ, ◌^◌, ◌<◌, Bool, true, false, eqb, List, [], ◌∷◌, refl, sym, ◌∙◌, arith}
use Rattle.std.specs.Prelude.{All, codes, decimal}
use Rattle.std.specs.List.{AllByRecursion, join_with_byte}
use Rattle.std.proofs.lemmas.Bool.{ne_eqb, eq-eqb}
use Rattle.std.proofs.lemmas.List.Elements.{All-nil, All-cons, All-append}
use Rattle.lsa_codec.specs.Prefix.{Net}
use Rattle.lsa_codec.specs.Spelling.{address_text, prefix_text}
use Rattle.edit_script.specs.declared.edit.Edit.{Edit}
use Rattle.edit_script.specs.declared.edit.Edit.TheVariants.{Cost, DropLink, FailLink, FailNet, FailRouter, AddStub, Summary, AddSummary, AddExternal}
use Rattle.edit_script.specs.declared.edit.Edit.TheVariants.{DropExternal, Refresh, Event as of_event}
use Rattle.edit_script.specs.declared.edit.MetricType.{MetricType}
use Rattle.edit_script.specs.declared.edit.MetricType.TheVariants.{Type1, Type2}
use Rattle.edit_script.specs.Words.{Word}
use Rattle.edit_script.specs.Spelling.{spelling, type_text, edit_words, IsScripted, IsPrefix}
use Rattle.text_words.proofs.PartLemmas.{Lacks, Lacks-literal, has_none}
use Rattle.text_words.proofs.NumberLemmas.{SparesDigits, Lacks-decimal}
use Rattle.text_words.proofs.AddressLemmas.{Lacks-address}
use Rattle.edit_script.proofs.Prefixes.{Lacks-prefix}

abbrev is_feed : ℕ → Bool
is_feed byte = eqb byte 10

feed_spares : SparesDigits is_feed
feed_spares = record { spares = λ b low high. ne_eqb b 10 (λ e. omega arith) }

literal : (word : Word) → has_none is_feed word ≡ true → Lacks is_feed word
literal word h = Lacks-literal is_feed word h

number : (n : ℕ) → n < 2 ^ 64 → Lacks is_feed (decimal n)
number n h = Lacks-decimal is_feed feed_spares n h

address : (n : ℕ) → Lacks is_feed (address_text n)
address n = Lacks-address is_feed feed_spares refl n

prefix : (net : Net) → IsPrefix net → Lacks is_feed (prefix_text net)
prefix net h = Lacks-prefix is_feed feed_spares refl refl net h

type : (t : MetricType) → Lacks is_feed (type_text t)
type Type1 = literal (codes "1") refl
type Type2 = literal (codes "2") refl

words_lack : (edit : Edit) → IsScripted edit → AllByRecursion (Lacks is_feed) (edit_words edit)
words_lack (Cost area router link metric) h =
    (literal (codes "cost") refl, (address area.0, (address router.0, (number link (omega arith), (number metric (omega arith), tt)))))
words_lack (DropLink area router link) h =
    (literal (codes "drop-link") refl, (address area.0, (address router.0, (number link (omega arith), tt))))
words_lack (FailLink area router neighbor) h =
    (literal (codes "fail-link") refl, (address area.0, (address router.0, (address neighbor.0, tt))))
words_lack (FailNet area network) h = (literal (codes "fail-net") refl, (address area.0, (address network.0, tt)))
words_lack (FailRouter router) h = (literal (codes "fail-router") refl, (address router.0, tt))
words_lack (AddStub area router net metric) h =
    (literal (codes "add-stub") refl, (address area.0, (address router.0, (prefix net h.2, (number metric (omega arith), tt)))))
words_lack (Summary area router net metric) h =
    (literal (codes "summary") refl, (address area.0, (address router.0, (prefix net h.2, (number metric (omega arith), tt)))))
words_lack (AddSummary area router net metric) h =
    (literal (codes "add-summary") refl, (address area.0, (address router.0, (prefix net h.2, (number metric (omega arith), tt)))))
words_lack (AddExternal router net t metric forward tag) h = (
  literal (codes "add-external") refl,
  (address router.0, (prefix net h.1, (type t, (number metric (omega arith), (address forward.0, (number tag (omega arith), tt)))))),
)
words_lack (DropExternal router net) h = (literal (codes "drop-external") refl, (address router.0, (prefix net h.1, tt)))
words_lack Refresh h = (literal (codes "refresh") refl, tt)
words_lack (of_event event) h = absurd h

joined : (words : List Word) → AllByRecursion (Lacks is_feed) words → Lacks is_feed (join_with_byte 32 words)
joined [] h = All-nil (λ b. is_feed b ≡ false)
joined (word ∷ []) h = h.0
joined (word ∷ next ∷ words) h =
    let P : ℕ → Type 0 = λ b. is_feed b ≡ false in
    let rest : List ℕ = join_with_byte 32 (next ∷ words) in
    All-append P word (32 ∷ rest) h.0 (All-cons P 32 rest refl (joined (next ∷ words) h.1))

unequal : (byte : ℕ) → is_feed byte ≡ false → byte ≢ 10
unequal byte lacks e = let both : true ≡ false = sym (eq-eqb byte 10 e) ∙ lacks in absurd cc

pub one_line : (edit : Edit) → IsScripted edit → All (λ byte. byte ≢ 10) (spelling edit)
one_line edit h = λ k d lt. unequal _ (joined (edit_words edit) (words_lack edit h) k d lt)
