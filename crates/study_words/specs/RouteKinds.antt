-- The kinds of routes.
use Rattle.std.specs.Prelude.{ℕ, List, [], ◌∷◌, Option}
use Rattle.study_words.specs.declared.route_kind.RouteKind.{RouteKind}
use Rattle.study_words.specs.declared.route_kind.RouteKind.TheVariants as of
use Rattle.study_words.specs.Named.{named}
use Rattle.study_words.specs.Written.{route, written}

-- as it is written
abbrev pub route_kind_text : RouteKind → List ℕ
route_kind_text w = written (route w)

abbrev pub route_kinds : List RouteKind
route_kinds =
    of.Intra ∷ of.Inter ∷ of.External1 ∷ of.External2 ∷ of.Own ∷ []

-- the one that a word is, if it is one
abbrev pub route_kind_of : List ℕ → Option RouteKind
route_kind_of word = named route_kind_text route_kinds word
