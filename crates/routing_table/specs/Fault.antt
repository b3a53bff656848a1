-- The codes and names of what a call for a table is refused for.
use Rattle.std.specs.Prelude.{ℕ, List, codes}
use Rattle.routing_table.specs.declared.table.TableFault.{TableFault}
use Rattle.routing_table.specs.declared.table.TableFault.TheVariants.{NoRouter, OutOfMemory}

abbrev pub code_of : TableFault → List ℕ
code_of NoRouter = codes "N1"
code_of OutOfMemory = codes "N2"

abbrev pub name_of : TableFault → List ℕ
name_of NoRouter = codes "NoRouter"
name_of OutOfMemory = codes "OutOfMemory"
