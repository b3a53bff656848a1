-- Which conditions are about a route or a path.
use Rattle.study_script.specs.declared.condition.Condition.{Condition}
use Rattle.study_script.specs.declared.condition.Condition.TheVariants as condition

abbrev pub IsOfRoutes : {A : Type 0} → Condition A → Type 0
IsOfRoutes (condition.Route router net kind via cost) = Unit {0}
IsOfRoutes (condition.NoRoute router net) = Unit {0}
IsOfRoutes (condition.Hops router net bound) = Unit {0}
IsOfRoutes (condition.Path router address passing) = Unit {0}
IsOfRoutes _ = ⊥
