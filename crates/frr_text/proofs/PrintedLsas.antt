-- An LSA that is printed is read again.
use Rattle.std.proofs.Common.{◌≡◌, ℕ, List, [], ◌∷◌, ◌++◌, append_assoc, Option, Some, ap, ◌∙◌}
use Rattle.std.specs.Prelude.{Result, Ok, decimal}
use Rattle.lsa_codec.specs.declared.address.AreaId.{AreaId}
use Rattle.lsa_codec.specs.declared.fault.LsaFault.{LsaFault}
use Rattle.lsa_codec.specs.Decoding.{decoded}
use Rattle.lsa_instances.specs.Order.{scope_of_report}
use Rattle.frr_text.specs.declared.header.Header.{Header}
use Rattle.frr_text.specs.declared.label.Label.TheVariants as label
use Rattle.frr_text.specs.Words.{Word}
use Rattle.frr_text.specs.Labels.{after_label}
use Rattle.frr_text.specs.Bodies.{body_in}
use Rattle.frr_text.specs.Making.{header_bytes, key_of}
use Rattle.frr_text.specs.ParsedParts.{in_scope, parsed_decoded, rebuilt, parsed_header, lsa_from, lsas_at}
use Rattle.frr_text.specs.Printing.{printed_byte, label_words, said, Beside, flags_words, name_words, origination_words, checksum_and_length_words, header_words, HeaderFits}
use Rattle.frr_text.specs.PrintingBodies.{Body, body_words, lsa_words, body_bytes, BodyFits}
use Rattle.frr_text.proofs.PrintedLabels.{label_again}
use Rattle.frr_text.proofs.PrintedFields.{after_four, after_five, header_again}
use Rattle.frr_text.proofs.PrintedBodies.{body_again}

-- what is printed after the label of the age
abbrev pub after_age : Beside → Header → List Word → List Word
after_age beside header rest =
    (decimal header.age_and_options.age ∷ []) ++ (said label.Options (printed_byte header.age_and_options.options)
    ++ (said label.Letters beside.letters ++ (said label.LsFlags beside.ls_flags
    ++ (flags_words header.flags ++ (name_words header.name ++ (origination_words header.origination
    ++ (checksum_and_length_words header.checksum_and_length ++ rest)))))))

pub begins : (beside : Beside) (header : Header) (rest : List Word)
    → header_words beside header ++ rest ≡ label_words label.Age ++ after_age beside header rest
begins beside header rest =
    let last = checksum_and_length_words header.checksum_and_length in
    let fields = flags_words header.flags ++ (name_words header.name ++ (origination_words header.origination ++ (last ++ rest))) in
    let options = said label.Options (printed_byte header.age_and_options.options) in
    let letters = said label.Letters beside.letters in
    let ls_flags = said label.LsFlags beside.ls_flags in
    let age = decimal header.age_and_options.age in
    after_five (said label.Age age ++ options ++ letters ++ ls_flags) (flags_words header.flags) (name_words header.name)
    (origination_words header.origination) last rest
    ∙ after_four (said label.Age age) options letters ls_flags fields
    ∙ append_assoc (label_words label.Age) (age ∷ []) (options ++ (letters ++ (ls_flags ++ fields)))

module _ {A : Type 0} where
  lsa_here : (area : Option AreaId) (beside : Beside) (header : Header) (rest : List Word) → HeaderFits header
      → lsas_at {A = A} area (header_words beside header ++ rest) ≡ rebuilt area header (body_in header rest) ∷ []
  unfolding lsas_at
  lsa_here area beside header rest h =
      let text = header_words beside header ++ rest in
      ap (λ (here : List Word). lsa_from area text (after_label label.Age here)) (begins beside header rest)
      ∙ ap (lsa_from area text) (label_again label.Age (after_age beside header rest))
      ∙ ap (λ (found : Option (Header × List Word)). parsed_header area text found ∷ []) (header_again beside header rest h)

  pub lsa_again : (area : Option AreaId) (beside : Beside) (header : Header) (body : Body) (rest : List Word) → HeaderFits header
      → BodyFits header body → lsas_at {A = A} area (lsa_words beside header body ++ rest)
      ≡ rebuilt area header (Some (body_bytes body)) ∷ []
  lsa_again area beside header body rest fits body_fits =
      ap (lsas_at area) (append_assoc (header_words beside header) (body_words body) rest)
      ∙ lsa_here area beside header (body_words body ++ rest) fits
      ∙ ap (λ (bytes : Option (List ℕ)). rebuilt area header bytes ∷ []) (body_again header body rest body_fits)

  pub accepted_again : (area : Option AreaId) (beside : Beside) (header : Header) (body : Body) (rest : List Word) (lsa : List ℕ) → HeaderFits header
      → BodyFits header body → decoded (header_bytes header ++ body_bytes body) ≡ Ok lsa
      → lsas_at {A = A} area (lsa_words beside header body ++ rest) ≡ in_scope (key_of header) lsa (scope_of_report (key_of header).kind area) ∷ []
  accepted_again area beside header body rest lsa fits body_fits h =
      lsa_again area beside header body rest fits body_fits
      ∙ ap (λ (answer : Result (List ℕ) LsaFault). parsed_decoded area (key_of header) answer ∷ []) h
