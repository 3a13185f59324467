use Rattle.std.proofs.Common.{◌≡◌, None, Some, drop, arith, length-drop}
use Rattle.std.proofs.lemmas.Result.{err_from_is_err_and}
use Rattle.byteorder.specs.Endian.{big_number}
use Rattle.marks_file.specs.Meaning.{first_bad, header_fields, place_count_at}
use Rattle.marks_file.proofs.FieldLemmas.{first_some, module_record}
use Rattle.marks_file.proofs.LoopLemmas.{module_stops, module_goes, module_value}
use Rattle.marks_file.proofs.reading.read_module.Goals as goal

pub returns-in_err-header-clause-bad : goal.returns-in_err-header-clause-bad
returns-in_err-header-clause-bad c =
    let p = err_from_is_err_and c.from_residual.result c.from_residual.ensures.1 in
    let bad : first_bad (header_fields c.args.at c.args.earlier.now (drop c.args.at c.args.input.now)) ≡ Some c.in_err-header.field-0.0.0 = rw c.rest_of.ensures at c.in_err-header.ensures.bad in
    rw (p.1, p.2) (first_some (header_fields c.args.at c.args.earlier.now (drop c.args.at c.args.input.now)) _ _ bad)

pub read_places-requires : goal.read_places-requires
read_places-requires c =
    let good : first_bad (header_fields c.args.at c.args.earlier.now (drop c.args.at c.args.input.now)) ≡ None = rw c.rest_of.ensures at c.in_ok-header.ensures.good in
    let room = (module_record c.args.at c.args.earlier.now (drop c.args.at c.args.input.now) good).room in
    let inside = c.requires.inside in
    omega (arith, room, length-drop c.args.at c.args.input.now)

pub returns-in_err-places-clause-bad : goal.returns-in_err-places-clause-bad
returns-in_err-places-clause-bad c =
    let good : first_bad (header_fields c.args.at c.args.earlier.now (drop c.args.at c.args.input.now)) ≡ None = rw c.rest_of.ensures at c.in_ok-header.ensures.good in
    let size : c.in_ok-header.header.size ≡ big_number 4 (drop 12 (drop c.args.at c.args.input.now)) = rw c.rest_of.ensures at c.in_ok-header.ensures.size in
    let count : c.in_ok-header.header.count ≡ place_count_at (drop c.args.at c.args.input.now) = rw c.rest_of.ensures at c.in_ok-header.ensures.count in
    let p = err_from_is_err_and c.from_residual-in_err-places.result c.from_residual-in_err-places.ensures.1 in
    rw (p.1, p.2) (module_stops c.args.input.now c.args.at c.args.earlier.now _ _ _ good size count c.in_err-places.ensures.bad)

pub returns-clause-value : goal.returns-clause-value
returns-clause-value c =
    let name = rw c.rest_of.ensures at c.in_ok-header.ensures.name in
    let base = rw c.rest_of.ensures at c.in_ok-header.ensures.base in
    let size = rw c.rest_of.ensures at c.in_ok-header.ensures.size in
    let count = rw c.rest_of.ensures at c.in_ok-header.ensures.count in
    module_value c.args.input.now c.args.at _ _ _ _ _ name base size count c.in_ok-places.ensures.places

pub returns-clause-good : goal.returns-clause-good
returns-clause-good c =
    let good : first_bad (header_fields c.args.at c.args.earlier.now (drop c.args.at c.args.input.now)) ≡ None = rw c.rest_of.ensures at c.in_ok-header.ensures.good in
    let size : c.in_ok-header.header.size ≡ big_number 4 (drop 12 (drop c.args.at c.args.input.now)) = rw c.rest_of.ensures at c.in_ok-header.ensures.size in
    let count : c.in_ok-header.header.count ≡ place_count_at (drop c.args.at c.args.input.now) = rw c.rest_of.ensures at c.in_ok-header.ensures.count in
    module_goes c.args.input.now c.args.at c.args.earlier.now _ _ good size count c.in_ok-places.ensures.good
