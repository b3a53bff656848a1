-- The line of a names file that is refused.
use Rattle.std.specs.Prelude.{ℕ, List, ◌++◌, codes, decimal}
use Rattle.network_names.specs.Fault.{code_of, name_of}
use Rattle.study_hints.specs.Escaped.{escaped}
use Rattle.whole_study.specs.declared.fault.NamesRefusal.{NamesRefusal}

-- `hosts:7: H3 BadName r!`, for a file named `hosts`
abbrev pub names_text : {A : Type 0} → List ℕ → NamesRefusal A → List ℕ
names_text file refusal =
    file ++ codes ":" ++ decimal refusal.line ++ codes ": " ++ code_of refusal.kind ++ codes " " ++ name_of refusal.kind
    ++ codes " " ++ escaped refusal.word.items ++ codes "\n"
