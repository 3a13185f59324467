-- The effect by the group of the operation, in which the group's table has its row.
use Rattle.std.proofs.Common.{◌≡◌, ℕ, Bool, true, false, if◌then◌else◌, Option, Some, None, refl, ap, sym, ◌∙◌}
use Rattle.std.specs.Option.{option_or}
use Rattle.cov_base.specs.Meaning.{Memory, CpuView, Machine, IoView}
use Rattle.s370_state.specs.Meaning.{Row, operate, machine_of}
use Rattle.s370_state.specs.declared.endings.Ending.TheVariants.{Abend}
use Rattle.s370_state.specs.declared.endings.Next.TheVariants.{On, Ended}
use Rattle.s370_decode.specs.Meaning.{first_half, i2, r1, r2, op_of}
use Rattle.s370_decode.specs.Groups.{group_of}
use Rattle.s370_decode.specs.declared.code.Code.{Code}
use Rattle.s370_decode.specs.declared.group.Group.{Group}
use Rattle.s370_decode.specs.declared.group.Group.TheVariants.{Fixed, Logic, Storage, Decimal, Edit, Branch, Call, Supervisor, Missing}
use Rattle.s370_decode.specs.declared.op.Op.{Op}
use Rattle.s370_decode.specs.declared.op.Op.TheVariants.{SVC, Privileged, MVCL}
use Rattle.s370_fixed.specs.Meaning.{fixed_row}
use Rattle.s370_logic.specs.Meaning.{logic_row}
use Rattle.s370_storage.specs.Meaning.{storage_row, long, overlaps}
use Rattle.s370_decimal.specs.Meaning.{decimal_row, edit_row}
use Rattle.s370_branch.specs.Meaning.{branched}
use Rattle.s370_exec.specs.Meaning.{Effect, unchanged, onward, call, row_of, unless_branched, effect, updated, link_code}
use Rattle.s370_exec.specs.Effects.{effect_of, executed}

abbrev pub effect_in : Memory → Machine → IoView → Code → Op → ℕ → ℕ → Group → Effect
effect_in m s io c op next link Fixed = onward next io (operate m s (fixed_row op c m s))
effect_in m s io c op next link Logic = onward next io (operate m s (logic_row op c m s))
effect_in m s io c op next link Storage = onward next io (operate m s (storage_row op c m s))
effect_in m s io c op next link Decimal = onward next io (operate m s (decimal_row op c m s))
effect_in m s io c op next link Edit = onward next io (operate m s (edit_row op c m s))
effect_in m s io c op next link Branch = unless_branched (branched op s.cpu c next link) s io (unchanged s io (Ended (Abend 1)))
effect_in m s io c op next link Call = call (i2 c) next m s io
effect_in m s io c op next link Supervisor = unchanged s io (Ended (Abend 2))
effect_in m s io c op next link Missing = unchanged s io (Ended (Abend 1))

-- where MVCL's operands overlap, or not, its table has a row
either_row : (b : Bool) (x y : Row) → option_or (if b then Some x else Some y) None ≡ (if b then Some x else Some y)
either_row true x y = refl
either_row false x y = refl

by_operation : (m : Memory) (s : Machine) (io : IoView) (c : Code) (op : Op) (next link : ℕ) → effect m s io c op next link ≡ effect_in m s io c op next link (group_of op)
unfolding effect
by_operation m s io c SVC next link = refl
by_operation m s io c MVCL next link = ap (λ (r : Option Row). onward next io (operate m s r)) (either_row (overlaps (long s.cpu.regs (r1 c) (r2 c))) _ _)
by_operation m s io c op next link = refl

pub by_group : (m : Memory) (s : Machine) (io : IoView) (c : Code) (op : Op) (next link : ℕ) (g : Group) → group_of op ≡ g → effect m s io c op next link ≡ effect_in m s io c op next link g
by_group m s io c op next link g h = by_operation m s io c op next link ∙ ap (effect_in m s io c op next link) h

pub as_executed : (m : Memory) (s : Machine) (io : IoView) (c : Code) (x : Option ℕ) (op : Op) (to : ℕ) (e : Effect) →
    op ≡ op_of (first_half c) → to ≡ updated c x → e ≡ effect m s io c op to (link_code c x) → e ≡ executed c x m s io
as_executed m s io c x op to e found next h = rw (← found, ← next) h

goes_as : (s : Machine) (io : IoView) (e : Effect) (o : Option CpuView) (cpu : CpuView) → Some cpu ≡ o → effect_of cpu s.bytes io On ≡ unless_branched o s io e
goes_as s io e o cpu h = rw (← h) refl

pub by_branch : (m : Memory) (s : Machine) (io : IoView) (c : Code) (op : Op) (next link : ℕ) (cpu : CpuView) → group_of op ≡ Branch →
    Some cpu ≡ branched op s.cpu c next link → effect_of cpu s.bytes io On ≡ effect m s io c op next link
by_branch m s io c op next link cpu g h =
    goes_as s io (unchanged s io (Ended (Abend 1))) (branched op s.cpu c next link) cpu h ∙ sym (by_group m s io c op next link Branch g)

either : (P : Effect → Type 0) (s : Machine) (io : IoView) (e : Effect) (o : Option CpuView) → ((cpu : CpuView) → P (unchanged (machine_of cpu s.bytes) io On)) → P e → P (unless_branched o s io e)
either P s io e (Some cpu) goes h = goes cpu
either P s io e None goes h = h

-- what holds of a branch's effect, of a row's, of a call's, and of that of a privileged operation
pub of_effect : (P : Effect → Type 0) (m : Memory) (s : Machine) (io : IoView) (c : Code) (op : Op) (next link : ℕ) →
    ((cpu : CpuView) → P (unchanged (machine_of cpu s.bytes) io On)) → ((row : Option Row) → P (onward next io (operate m s row))) →
    P (call (i2 c) next m s io) → P (unchanged s io (Ended (Abend 2))) → P (effect m s io c op next link)
unfolding effect
of_effect P m s io c SVC next link goes rows calls refused = calls
of_effect P m s io c Privileged next link goes rows calls refused = refused
of_effect P m s io c op next link goes rows calls refused =
    either P s io (onward next io (operate m s (row_of op c m s))) (branched op s.cpu c next link) goes (rows (row_of op c m s))
