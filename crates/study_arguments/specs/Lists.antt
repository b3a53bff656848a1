-- Words that are lists: routers joined by commas, and words up to the end of a line.
use Rattle.std.specs.Prelude.{◌==◌, List, [], ◌∷◌, Result, Ok}
use Rattle.std.specs.List.{slice_split}
use Rattle.lsa_codec.specs.declared.address.RouterId.{RouterId}
use Rattle.text_words.specs.Words.{Word}
use Rattle.study_arguments.specs.Arguments.{Read, read_at}
use Rattle.study_arguments.specs.Fault.{◌>>=◌, FaultAt}
use Rattle.study_arguments.specs.Positions.{At, next}
use Rattle.study_arguments.specs.Values.{Lookup, router_id}

-- each of these, or the first fault
unfoldable pub each : {A : Type 0} → Read A → List Word → Result (List A) FaultAt
each read [] = Ok []
each read (word ∷ others) = do
  x ← read_at read word
  xs ← each read others
  Ok (x ∷ xs)

-- one or more words up to the end of the line
unfoldable pub one_or_more : {A : Type 0} → Read A → At → Result (List A) FaultAt
one_or_more read line = next line >>= λ first. each read line.1

-- routers, joined by `,` (44)
abbrev pub neighbors : Lookup → Word → Result (List RouterId) FaultAt
neighbors names word = each (router_id names) (slice_split (λ byte. byte == 44) word)
