-- What a question is answered in a document: the members of the reply, or why it is refused.
use Rattle.std.specs.Prelude.{◌≡◌, ℕ, Bool, true, false, List}
use Rattle.study_json.specs.Fields.{Fields, HaveNumbers, more_text}
use Rattle.study_answers.specs.Areas.{no_area}
use Rattle.study_answers.specs.Known.{no_router, too_few_done}
use Rattle.document_answers.specs.declared.documented.Documented.{Documented}
use Rattle.document_answers.specs.declared.documented.Documented.TheVariants as of

-- the text of the members with the end of the object; or a code and a name
pub data DocumentedValue : Type 0 where
  members : List ℕ → DocumentedValue
  refused : List ℕ × List ℕ → DocumentedValue

abbrev pub documented : {A : Type 0} → Documented A → DocumentedValue
documented (of.Members text) = members text.items
documented of.NoRouter = refused no_router
documented of.TooFewDone = refused too_few_done
documented of.NoArea = refused no_area

-- a text is that of these members, whose numbers are numbers of JSON
pub record IsTextOf (fields : Fields) (given : List ℕ) : Type 0 where
  pub text : given ≡ more_text fields
  pub numbers : HaveNumbers fields

-- the reply has these members
abbrev pub HasMembers : Fields → DocumentedValue → Type 0
HasMembers fields (members text) = IsTextOf fields text
HasMembers fields (refused texts) = ⊥

-- the same of a router that is there; another one is refused
abbrev pub IfThere : Bool → DocumentedValue → Type 0 → Type 0
IfThere true given P = P
IfThere false given P = given ≡ refused no_router

-- the same of an area
abbrev pub IfInArea : Bool → DocumentedValue → Type 0 → Type 0
IfInArea true given P = P
IfInArea false given P = given ≡ refused no_area
