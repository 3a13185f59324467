use Rattle.std.proofs.Common.{◌≡◌, ◌+◌, ◌<◌, ◌∙◌, sym, length, get_or, None, arith}
use Rattle.listing_reader.specs.declared.lines.Line.TheVariants.{Text}
use Rattle.listing_reader.specs.declared.lines.Line.TheVariants as says
use Rattle.brk_table.specs.Meaning.{fault_by}
use Rattle.brk_table.specs.Cover.{is_covered}
use Rattle.brk_table.proofs.Passes.{at_start, at_end, found_fault, no_fault, code_passed, text_passed}
use Rattle.brk_table.proofs.fault.first_fault.Goals as goal
use Rattle.brk_table.proofs.fault.first_fault.Goals.{in-Code+in_default-fault_by, in_default}

pub loop-i-init : goal.loop-i-init
loop-i-init c = record { at = at_start _ _ _ _ c.requires.size c.requires.fresh; low = omega arith }

pub returns-in-Some-clause-fault : goal.returns-in-Some-clause-fault
returns-in-Some-clause-fault c =
    let below : c.loop-i.i < length c.args.lines.now = omega (arith, c.len-i-end.ensures) in
    let is : get_or c.args.lines.now c.loop-i.i Text ≡ says.Code c.in-Code.loc c.in-Code.code = sym c.line.ensures ∙ c.in-Code.is in
    sym (found_fault c.args.bytes.now c.args.room c.args.lines.now c.loop-i.i c.loop-i.cover c.loop-i.before c.in-Code.loc c.in-Code.code c.in-Some.fault c.loop-i.invariant.at below c.requires.sound is (sym c.fault_by.ensures ∙ c.in-Some.is))

pub mark-requires : goal.mark-requires
mark-requires c =
    let e : fault_by c.args.bytes.now c.args.room (is_covered c.loop-i.cover c.in-Code.loc c.in-Code.code.len) c.loop-i.before (c.loop-i.i + 1) c.in-Code.loc c.in-Code.code ≡ None = sym c.fault_by.ensures ∙ c.in_default-fault_by.is in
    let none = no_fault c.args.bytes.now c.args.room c.args.lines.now c.loop-i.i c.loop-i.cover c.loop-i.before c.in-Code.loc c.in-Code.code c.loop-i.invariant.at e in
    omega (arith, none.inside, c.loop-i.invariant.at.size)

pub loop-i-preserved : goal.loop-i-preserved
loop-i-preserved c = elim c.match-line.branch [
  | in-Code+in_default-fault_by w ↦ (
      let below : c.loop-i.i < length c.args.lines.now = omega (arith, c.len-i-end.ensures) in
      let is : get_or c.args.lines.now c.loop-i.i Text ≡ says.Code w.in-Code.loc w.in-Code.code = sym c.line.ensures ∙ w.in-Code.is in
      let passed = code_passed c.args.bytes.now c.args.room c.args.lines.now c.loop-i.i c.loop-i.cover w.mark.new.cover c.loop-i.before w.in-Code.loc w.in-Code.code c.loop-i.invariant.at below c.requires.sound is
      (sym w.fault_by.ensures ∙ w.in_default-fault_by.is) w.mark.auto.cover w.mark.ensures.inside w.mark.ensures.before w.mark.ensures.behind in
      record { at = rw (w.cover-is, w.before-is) passed; low = omega arith })
  | in_default w ↦ (
      let below : c.loop-i.i < length c.args.lines.now = omega (arith, c.len-i-end.ensures) in
      let is : get_or c.args.lines.now c.loop-i.i Text ≡ Text = sym c.line.ensures ∙ w.in_default.is in
      let passed = text_passed c.args.bytes.now c.args.room c.args.lines.now c.loop-i.i c.loop-i.cover c.loop-i.before c.loop-i.invariant.at below is in
      record { at = rw (w.cover-is, w.before-is) passed; low = omega arith })
]

pub returns : goal.returns
returns c =
    let end = at_end c.args.bytes.now c.args.room c.args.lines.now c.loop-i.i c.loop-i.cover c.loop-i.before c.loop-i.invariant.at (omega arith) in
    record { fault = sym end.none; cover = λ _. end.cover_is; inside = λ _. end.inside; room = λ _. end.count }
