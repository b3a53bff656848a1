-- The first lines of replies to questions.
use Rattle.std.specs.Prelude.{ℕ, List, [], ◌++◌, Option, None, Some, codes, decimal}
use Rattle.lsa_codec.specs.declared.address.Addr.{Addr}
use Rattle.lsa_codec.specs.declared.address.RouterId.{RouterId}
use Rattle.lsa_codec.specs.Spelling.{address_text}
use Rattle.branches.specs.Replies.{mark_of}
use Rattle.study_words.specs.declared.see_word.SeeWord.{SeeWord}
use Rattle.study_words.specs.declared.study_word.StudyWord.{StudyWord}
use Rattle.study_words.specs.SeeWords.{see_text}
use Rattle.study_words.specs.StudyWords.{study_text}
use Rattle.study_text.specs.Shown.{Called, shown}

-- the branch and the word
abbrev pub head_of : ℕ → SeeWord → List ℕ
head_of branch word = mark_of branch ++ see_text word

-- the router that a line names, if it names one
abbrev pub router_after : Called → Option RouterId → List ℕ
router_after called None = []
router_after called (Some router) = codes " " ++ shown called router

-- the address that it names, if it names one
abbrev pub address_after : Option Addr → List ℕ
address_after None = []
address_after (Some addr) = codes " " ++ address_text addr.0

abbrev pub number_after : ℕ → List ℕ
number_after number = codes " " ++ decimal number

-- the word that it names, if it names one
abbrev pub word_after : Option StudyWord → List ℕ
word_after None = []
word_after (Some word) = codes " " ++ study_text word
