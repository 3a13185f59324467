-- The modules that were read, by their fields.
use Rattle.std.specs.Prelude.{◌≡◌, ℕ, List, map}
use Rattle.marks_file.specs.Meaning.{MarkedView}
use Rattle.marks_file.specs.declared.modules.NamedModules.TheInside.{Inside}

abbrev pub names_of : List MarkedView → List (List ℕ)
names_of modules = map (λ (m : MarkedView). m.name) modules

abbrev pub items_of : Inside → List MarkedView
items_of e = e.modules.items

abbrev pub HasNames : Inside → Type 0
HasNames e = e.names ≡ names_of (items_of e)
