-- What is printed are words, and a text in which they are laid out has these words.
use Rattle.std.proofs.Common.{◌≡◌, ℕ, zero, suc, ◌+◌, ◌/◌, ◌%◌, ◌^◌, ◌<◌, ◌≤◌, Bool, true, false, eqb, ltb, cond, List, [], ◌∷◌, ◌++◌, length}
use Rattle.std.proofs.Common.{length-append, Option, Some, None, refl, arith}
use Rattle.std.specs.Prelude.{decimal}
use Rattle.std.specs.List.{join_with_byte, flat_map, All}
use Rattle.std.proofs.lemmas.List.Elements.{All-nil, All-cons, All-head, All-tail, All-append}
use Rattle.lsa_codec.specs.Spelling.{address_text}
use Rattle.text_words.specs.declared.blanks.Blanks.TheVariants.{InText}
use Rattle.text_words.proofs.PartLemmas.{Lacks}
use Rattle.text_words.proofs.NumberLemmas.{Lacks-decimal}
use Rattle.text_words.proofs.WordLemmas as any
use Rattle.text_words.proofs.WordLemmas.{above_blanks, blank_spares, decimal_word, address_word}
use Rattle.frr_text.specs.declared.header.AgeAndOptions.{AgeAndOptions}
use Rattle.frr_text.specs.declared.header.Header.{Header}
use Rattle.frr_text.specs.declared.header.Origination.{Origination}
use Rattle.frr_text.specs.declared.header.Name.{Name}
use Rattle.frr_text.specs.declared.header.ChecksumAndLength.{ChecksumAndLength}
use Rattle.frr_text.specs.declared.label.Label.{Label}
use Rattle.frr_text.specs.declared.label.Label.TheVariants as label
use Rattle.frr_text.specs.declared.router.Link.{Link}
use Rattle.frr_text.specs.Words.{Word, is_blank, words}
use Rattle.frr_text.specs.Labels.{text_of}
use Rattle.frr_text.specs.Fields.{type_label, id_label}
use Rattle.frr_text.specs.Bodies.{link_label, link_id_label, data_label}
use Rattle.frr_text.specs.Printing.{IsWord, printed_digit, printed_hex, printed_byte, printed_mask, label_words, said, Beside, BesideFits, age_and_options_words, names_of_bits, flags_words, name_words, origination_words, checksum_and_length_words, header_words, HeaderFits}
use Rattle.frr_text.specs.PrintingBodies.{link_words, LinkFits, attached_words, metric_type_label, Body, of_router, of_network, of_summary, of_external, body_words, lsa_words, BodyFits}

-- ---- the words of a text

-- a blank stands between the words before it and those after it
pub words_beside : (front text : List ℕ) (blank : ℕ) → is_blank blank ≡ true → words (front ++ blank ∷ text) ≡ words front ++ words text
unfolding words
words_beside front text blank h = any.words_beside InText front text blank h

pub one_word : (word : Word) → IsWord word → words word ≡ word ∷ []
unfolding words
one_word word h = any.one_word InText word h

pub words_joined : (blank : ℕ) (ws : List Word) → is_blank blank ≡ true → All IsWord ws → words (join_with_byte blank ws) ≡ ws
unfolding words
words_joined blank ws h all = any.words_joined InText blank ws h all

record AreWords (ws : List Word) : Type 0 where
  pub each : All IsWord ws

-- the words of any text are words
of_text : (text : List ℕ) → AreWords (words text)
unfolding words
of_text text = record { each = any.are_words InText text }

-- ---- numbers are words

abbrev NotBlank : ℕ → Type 0
NotBlank byte = is_blank byte ≡ false

of_number : (n : ℕ) → n < 2 ^ 64 → IsWord (decimal n)
of_number n h = decimal_word InText n h

of_address : (n : ℕ) → IsWord (address_text n)
of_address n = address_word InText n

mask_word : (len : ℕ) → len ≤ 32 → IsWord (printed_mask len)
mask_word len h = record {
  some = omega arith;
  no_blank = All-cons NotBlank 47 (decimal len) refl (Lacks-decimal is_blank (blank_spares InText) len (omega arith));
}

high_digit : (b : Bool) (d : ℕ) → is_blank (cond b (48 + d) (87 + d)) ≡ false
high_digit true d = above_blanks InText (48 + d) (omega arith)
high_digit false d = above_blanks InText (87 + d) (omega arith)

hex_lacks : (count n : ℕ) → Lacks is_blank (printed_hex count n)
hex_lacks zero n = All-nil NotBlank
hex_lacks (suc count) n =
    All-append NotBlank (printed_hex count (n / 16)) (printed_digit (n % 16) ∷ []) (hex_lacks count (n / 16))
    (All-cons NotBlank (printed_digit (n % 16)) [] (high_digit (ltb (n % 16) 10) (n % 16)) (All-nil NotBlank))

hex_word : (count n : ℕ) → IsWord (printed_hex (suc count) n)
hex_word count n = record {
  some = omega (arith, length-append (printed_hex count (n / 16)) (printed_digit (n % 16) ∷ []));
  no_blank = hex_lacks (suc count) n;
}

marked_word : (digits : Word) → Lacks is_blank digits → IsWord (48 ∷ 120 ∷ digits)
marked_word digits h = record { some = omega arith; no_blank = All-cons NotBlank 48 (120 ∷ digits) refl (All-cons NotBlank 120 digits refl h) }

byte_digits : (b : Bool) (n : ℕ) → Lacks is_blank (cond b (printed_hex 1 n) (printed_hex 2 n))
byte_digits true n = hex_lacks 1 n
byte_digits false n = hex_lacks 2 n

byte_word : (n : ℕ) → IsWord (printed_byte n)
byte_word n = marked_word (cond (ltb n 16) (printed_hex 1 n) (printed_hex 2 n)) (byte_digits (ltb n 16) n)

-- ---- what is printed are words

none : AreWords []
none = record { each = All-nil IsWord }

both : {xs ys : List Word} → AreWords xs → AreWords ys → AreWords (xs ++ ys)
both {xs} {ys} hx hy = record { each = All-append IsWord xs ys hx.each hy.each }

of_label : (label : Label) → AreWords (label_words label)
of_label label = of_text (text_of label)

of_said : (label : Label) (word : Word) → IsWord word → AreWords (said label word)
of_said label word h = both (of_label label) (record { each = All-cons IsWord word [] h (All-nil IsWord) })

of_bit : (b : Bool) (label : Label) → AreWords (cond b (label_words label) [])
of_bit true label = of_label label
of_bit false label = none

of_names : (flags : ℕ) → AreWords (names_of_bits flags)
of_names flags =
    both (both (both (of_bit (eqb (flags / 1 % 2) 1) label.BoundaryBit) (of_bit (eqb (flags / 2 % 2) 1) label.ExternalBit))
    (of_bit (eqb (flags / 4 % 2) 1) label.VirtualBit)) (of_bit (eqb (flags / 16 % 2) 1) label.ShortcutBit)

of_names_or_none : (b : Bool) (flags : ℕ) → AreWords (cond b [] (label_words label.Letters ++ names_of_bits flags))
of_names_or_none true flags = none
of_names_or_none false flags = both (of_label label.Letters) (of_names flags)

of_flags : (flags : Option ℕ) → AreWords (flags_words flags)
of_flags None = none
of_flags (Some flags) = both (of_said label.Flags (printed_byte flags) (byte_word flags)) (of_names_or_none (eqb flags 0) flags)

of_age_and_options : (beside : Beside) (first : AgeAndOptions) → BesideFits beside → first.age < 2 ^ 16 → AreWords (age_and_options_words beside first)
of_age_and_options beside first h age =
    both (both (both (of_said label.Age (decimal first.age) (of_number first.age (omega arith)))
    (of_said label.Options (printed_byte first.options) (byte_word first.options)))
    (of_said label.Letters beside.letters h.letters)) (of_said label.LsFlags beside.ls_flags h.ls_flags)

of_name : (name : Name) → AreWords (name_words name)
of_name name =
    both (both (of_label (type_label name.ls_type)) (of_said label.Id (address_text name.id.0) (of_address name.id.0)))
    (of_label (id_label name.ls_type))

of_origination : (origination : Origination) → AreWords (origination_words origination)
of_origination origination =
    both (of_said label.AdvertisingRouter (address_text origination.adv.0) (of_address origination.adv.0))
    (of_said label.Sequence (printed_hex 8 origination.sequence) (hex_word 7 origination.sequence))

of_checksum_and_length : (last : ChecksumAndLength) → last.size < 2 ^ 16 → AreWords (checksum_and_length_words last)
of_checksum_and_length last size =
    both (of_said label.Checksum (48 ∷ 120 ∷ printed_hex 4 last.checksum) (marked_word (printed_hex 4 last.checksum) (hex_lacks 4 last.checksum)))
    (of_said label.Length (decimal last.size) (of_number last.size (omega arith)))

of_header : (beside : Beside) (header : Header) → BesideFits beside → HeaderFits header → AreWords (header_words beside header)
of_header beside header h fits =
    both (both (both (both (of_age_and_options beside header.age_and_options h fits.age) (of_flags header.flags)) (of_name header.name))
    (of_origination header.origination))
    (of_checksum_and_length header.checksum_and_length fits.size)

of_link : (link : Link) → LinkFits link → AreWords (link_words link)
of_link link h =
    both (both (both (of_label (link_label link.link_type))
    (of_said (link_id_label link.link_type) (address_text link.id) (of_address link.id)))
    (of_said (data_label link.link_type) (address_text link.link_data) (of_address link.link_data)))
    (of_said label.LinkMetric (decimal link.metric) (of_number link.metric (omega (arith, h.metric))))

of_links : (links : List Link) → All LinkFits links → AreWords (flat_map link_words links)
of_links [] h = none
of_links (link ∷ links) h = both (of_link link (All-head LinkFits link links h)) (of_links links (All-tail LinkFits link links h))

of_attached : (routers : List ℕ) → AreWords (flat_map attached_words routers)
of_attached [] = none
of_attached (router ∷ routers) = both (of_said label.Attached (address_text router) (of_address router)) (of_attached routers)

of_body : (header : Header) (body : Body) → BodyFits header body → AreWords (body_words body)
of_body header (of_router flags links) h =
    both (of_said label.LinkCount (decimal (length links)) (of_number (length links) (omega (arith, h.count)))) (of_links links h.each_link)
of_body header (of_network len routers) h =
    both (of_said label.Mask (printed_mask len) (mask_word len h.mask)) (of_attached routers)
of_body header (of_summary summary) h =
    both (of_said label.Mask (printed_mask summary.len) (mask_word summary.len h.len))
    (of_said label.Metric (decimal summary.metric) (of_number summary.metric (omega (arith, h.metric))))
of_body header (of_external external) h =
    both (both (both (both (of_said label.Mask (printed_mask external.len) (mask_word external.len h.len))
    (of_label (metric_type_label external.is_type2)))
    (of_said label.Metric (decimal external.metric) (of_number external.metric (omega (arith, h.metric)))))
    (of_said label.Forward (address_text external.forward) (of_address external.forward)))
    (of_said label.Tag (decimal external.tag) (of_number external.tag (omega (arith, h.tag))))

pub lsa_is_words : (beside : Beside) (header : Header) (body : Body) → BesideFits beside → HeaderFits header → BodyFits header body
    → All IsWord (lsa_words beside header body)
lsa_is_words beside header body h fits body_fits = (both (of_header beside header h fits) (of_body header body body_fits)).each
