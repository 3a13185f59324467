use Rattle.std.proofs.Common.{◌≡◌, None, drop, length, ap, arith}
use Rattle.std.proofs.lemmas.Result.{err_from_is_err_and}
use Rattle.marks_file.specs.Meaning.{MarkedView, first_bad, module_fields}
use Rattle.marks_file.proofs.SpellLemmas.{AreBytes}
use Rattle.marks_file.proofs.ModuleLoop.{modules_step, modules_stop, next_new}
use Rattle.marks_file.proofs.reading.read_modules.Goals as goal

pub returns-in_err-marked-clause-bad : goal.returns-in_err-marked-clause-bad
returns-in_err-marked-clause-bad c =
    let p = err_from_is_err_and c.from_residual.result c.from_residual.ensures.1 in
    rw (p.1, p.2) (modules_stop _ _ _ _ _ _ _ _ c.loop-i.invariant c.loop-i-test.true c.in_err-marked.ensures.bad)

pub overflow_cast-before : goal.overflow_cast-before
overflow_cast-before c =
    let bytes : AreBytes c.args.input.now = λ i. let h = c.type_inv.input i in omega (arith, h) in
    let many : c.len-places.result ≡ length c.in_ok-marked.marked.places = omega (arith, c.len-places.ensures, c.marked.inside.places.ok.0, ap (λ (m : MarkedView). length m.places) c.marked.view_is) in
    let good : first_bad (module_fields c.loop-i.at c.loop-i.modules (drop c.loop-i.at c.args.input.now)) ≡ None = c.in_ok-marked.ensures.good in
    let next = modules_step c.args.input.now c.args.from c.args.count c.loop-i.at c.loop-i._i c.loop-i.before c.len-places.result c.loop-i.modules c.in_ok-marked.marked bytes c.loop-i.invariant c.loop-i-test.true good c.in_ok-marked.ensures.value many in
    let few = next.few in
    omega (arith, few)

pub overflow_add-before : goal.overflow_add-before
overflow_add-before c =
    let bytes : AreBytes c.args.input.now = λ i. let h = c.type_inv.input i in omega (arith, h) in
    let many : c.len-places.result ≡ length c.in_ok-marked.marked.places = omega (arith, c.len-places.ensures, c.marked.inside.places.ok.0, ap (λ (m : MarkedView). length m.places) c.marked.view_is) in
    let good : first_bad (module_fields c.loop-i.at c.loop-i.modules (drop c.loop-i.at c.args.input.now)) ≡ None = c.in_ok-marked.ensures.good in
    let next = modules_step c.args.input.now c.args.from c.args.count c.loop-i.at c.loop-i._i c.loop-i.before c.len-places.result c.loop-i.modules c.in_ok-marked.marked bytes c.loop-i.invariant c.loop-i-test.true good c.in_ok-marked.ensures.value many in
    let few = next.few in
    omega (arith, few)

pub loop-i-preserved : goal.loop-i-preserved
loop-i-preserved c =
    let bytes : AreBytes c.args.input.now = λ i. let h = c.type_inv.input i in omega (arith, h) in
    let many : c.len-places.result ≡ length c.in_ok-marked.marked.places = omega (arith, c.len-places.ensures, c.marked.inside.places.ok.0, ap (λ (m : MarkedView). length m.places) c.marked.view_is) in
    let good : first_bad (module_fields c.loop-i.at c.loop-i.modules (drop c.loop-i.at c.args.input.now)) ≡ None = c.in_ok-marked.ensures.good in
    let next = modules_step c.args.input.now c.args.from c.args.count c.loop-i.at c.loop-i._i c.loop-i.before c.len-places.result c.loop-i.modules c.in_ok-marked.marked bytes c.loop-i.invariant c.loop-i-test.true good c.in_ok-marked.ensures.value many in
    rw c.in_ok-modules.ensures next

pub with-requires : goal.with-requires
with-requires c =
    let bytes : AreBytes c.args.input.now = λ i. let h = c.type_inv.input i in omega (arith, h) in
    next_new c.args.input.now c.loop-i.at c.loop-i.modules c.in_ok-marked.marked bytes c.in_ok-marked.ensures.good c.in_ok-marked.ensures.value
