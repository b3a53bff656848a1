-- How an FRR router prints headings and LSAs one after another, as words.
use Rattle.std.specs.Prelude.{◌≢◌, List, [], ◌∷◌, ◌++◌, codes}
use Rattle.lsa_codec.specs.Spelling.{address_text}
use Rattle.lsa_instances.specs.declared.area.AreaKind.{AreaKind}
use Rattle.lsa_instances.specs.declared.area.AreaKind.TheVariants as kinds
use Rattle.lsa_instances.specs.declared.area.AreaReport.{AreaReport}
use Rattle.frr_text.specs.declared.label.Label.TheVariants as label
use Rattle.frr_text.specs.Words.{Word}
use Rattle.frr_text.specs.Printing.{Beside, label_words, said}

-- neither an LSA nor the area of a heading begins with this word
pub record IsPlain (word : Word) : Type 0 where
  pub no_lsa : word ≢ codes "LS"
  pub no_area : word ≢ codes "(Area"

pub record ArePlain (beside : Beside) : Type 0 where
  pub letters : IsPlain beside.letters
  pub ls_flags : IsPlain beside.ls_flags

abbrev pub area_words : AreaKind → Word → List Word
area_words kinds.Ordinary address = said label.Area (address ++ 41 ∷ [])
area_words kinds.Stub address = said label.Area address ++ label_words label.Stub
area_words kinds.Nssa address = said label.Area address ++ label_words label.Nssa

-- the area that a heading names, and the kind of the area, before a closing parenthesis (41)
abbrev pub heading_words : AreaReport → List Word
heading_words parsed = area_words parsed.kind (address_text parsed.id.0)
