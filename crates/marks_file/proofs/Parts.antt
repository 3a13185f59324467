-- Parts of the rules and of the bytes, which lemmas name.
use Rattle.std.specs.Prelude.{ℕ, ◌+◌, ◌*◌, Bool, true, ◌&&◌, Option, option_map, unwrap_or, List, length}
use Rattle.cov_base.specs.Meaning.{number_of_facts, is_filled}
use Rattle.marks_file.specs.Meaning.{MarkedView, is_location, is_length, is_original, is_set, is_new_name, is_base, is_size, is_count, are_places}
use Rattle.marks_file.specs.declared.marks.MarkedPlace.{MarkedPlace}

-- the rules of a place of a module of this size, behind one that ends there; of a module behind these; of a session's name
abbrev pub is_place : ℕ → ℕ → MarkedPlace → Bool
is_place size end p = is_location size end p.location && (is_length size p.location p.len && (is_original p.len p.kind p.original && is_set p.kind (number_of_facts p.set)))

abbrev pub is_module : List MarkedView → MarkedView → Bool
is_module earlier m = is_new_name earlier m.name && (is_base m.base && (is_size earlier m.base m.size && (is_count earlier (length m.places) && are_places m.size 0 m.places)))

abbrev pub is_session_name : Option (List ℕ) → Bool
is_session_name name = unwrap_or (option_map is_filled name) true

-- how many bytes a module with so many places has
abbrev pub module_size : ℕ → ℕ
module_size count = 20 + 9 * count
