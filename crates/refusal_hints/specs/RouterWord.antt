-- The word of a line that names a router.
use Rattle.std.specs.Prelude.{◌==◌, Bool, false, List, [], Result, Ok, Err, unwrap_or}
use Rattle.std.specs.List.{find, flat_map, slice_split}
use Rattle.lsa_codec.specs.declared.address.RouterId.{RouterId}
use Rattle.text_words.specs.Words.{Word}
use Rattle.study_arguments.specs.Values.{Lookup, router_id}
use Rattle.study_arguments.specs.declared.fault.FaultKind.{FaultKind}

abbrev pub is_router : RouterId → Result RouterId FaultKind → Bool
is_router router (Ok named) = named.0 == router.0
is_router router (Err fault) = false

-- the parts of a word between commas (44)
abbrev pub parts : Word → List Word
parts word = slice_split (λ byte. byte == 44) word

-- the first word, of a list the first part, that spells or names a router
abbrev pub naming : Lookup → RouterId → List Word → Word
naming names router words = unwrap_or (find (λ part. is_router router (router_id names part)) (flat_map parts words)) []
