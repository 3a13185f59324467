use Rattle.std.proofs.Common.{rules, ◌≡◌, suc, ◌++◌, Some, Option, [], ◌∷◌, All, IsSome, List, length, map, sym, ◌∙◌, ap, subst, arith}
use Rattle.std.proofs.lemmas.List.{append_assoc, append-nil, length-append, length-map, nil_from_length}
use Rattle.job_run.specs.declared.slots.Slot.{Slot}
use Rattle.job_run.specs.declared.outcome.Done.{Done}
use Rattle.job_run.specs.Slots.{dones, extras_of}
use Rattle.job_run.proofs.phase.outcome_of.Given as given
use Rattle.job_run.proofs.phase.outcome_of.Goals as goal

-- a list whose first element goes to the end of another
moved_one : {X : Type 0} (xs ys zs all : List X) (x : X) → xs ++ ys ≡ all → ys ≡ x ∷ zs → (xs ++ x ∷ []) ++ zs ≡ all
moved_one xs ys zs all x before first = append_assoc xs (x ∷ []) zs ∙ (ap (λ l. xs ++ l) (sym first) ∙ before)

pub put_parts-requires-clause-some : goal.put_parts-requires-clause-some
put_parts-requires-clause-some g c =
    let all = subst (λ (ss : List (Slot _ _)). All (λ s. IsSome s.extra) ss) c.in-Some.ensures.steps.0 c.loop-slot.invariant.some in
    all 0 c.in-Some.slot (omega arith)

pub put_parts-requires-clause-tasks_room : goal.put_parts-requires-clause-tasks_room
put_parts-requires-clause-tasks_room g c = omega (arith, c.loop-slot.invariant.tasks_room, ap (λ (ss : List (Slot _ _)). length ss) c.in-Some.ensures.steps.0)

pub put_parts-requires-clause-extras_room : goal.put_parts-requires-clause-extras_room
put_parts-requires-clause-extras_room g c = omega (arith, c.loop-slot.invariant.extras_room, ap (λ (ss : List (Slot _ _)). length ss) c.in-Some.ensures.steps.0)

pub loop-slot-preserved : goal.loop-slot-preserved
loop-slot-preserved g c =
    let first = c.in-Some.ensures.steps.0 in
    let rest : List (Slot _ _) = c.next.new.self.rest.items in
    let i = c.loop-slot.invariant in
    let size = ap (λ (ss : List (Slot _ _)). length ss) first in
    let all = subst (λ (ss : List (Slot _ _)). All (λ s. IsSome s.extra) ss) first i.some in
    record {
      can_next = tt;
      is_finite = tt;
      moved = subst (λ (ds : List Done). ds ++ dones rest ≡ dones c.into_iter-slot-iterator.result.rest.items) (sym c.put_parts.ensures.tasks)
          (moved_one c.loop-slot.room.tasks.items (dones c.loop-slot.slot-iterator.rest.items) (dones rest) _ c.in-Some.slot.done i.moved (ap (λ (ss : List (Slot _ _)). dones ss) first));
      taken = ap (λ (es : List (Option _)). es ++ extras_of rest) c.put_parts.ensures.extras
          ∙ moved_one (map Some c.loop-slot.room.extras.items) (extras_of c.loop-slot.slot-iterator.rest.items) (extras_of rest) _ c.in-Some.slot.extra i.taken (ap (λ (ss : List (Slot _ _)). extras_of ss) first);
      tasks_room = omega (arith, i.tasks_room, size, c.put_parts.ensures.tasks_room, ap (λ (ds : List Done). length ds) c.put_parts.ensures.tasks, length-append c.loop-slot.room.tasks.items (c.in-Some.slot.done ∷ []));
      extras_room = omega (
        arith,
        i.extras_room,
        size,
        c.put_parts.ensures.extras_room,
        ap (λ (es : List (Option _)). length es) c.put_parts.ensures.extras,
        length-append (map Some c.loop-slot.room.extras.items) (c.in-Some.slot.extra ∷ []),
        length-map c.loop-slot.room.extras.items Some,
        length-map c.put_parts.new.room.extras.items Some,
      );
      some = λ k d l. all (suc k) d (omega (arith, l));
    }

-- none are left
none_left : (g : given.Over) (c : goal.After-new-sets g) → c.loop-slot.slot-iterator.rest.items ≡ []
none_left g c = nil_from_length c.loop-slot.slot-iterator.rest.items (sym c.loop-slot.slot-iterator.rest.ok.0 ∙ c.in-None.ensures.steps.0)

pub returns-clause-tasks : goal.returns-clause-tasks
returns-clause-tasks g c =
    sym (append-nil c.loop-slot.room.tasks.items) ∙ (ap (λ (ss : List (Slot _ _)). c.loop-slot.room.tasks.items ++ dones ss) (sym (none_left g c)) ∙ (c.loop-slot.invariant.moved ∙ search rules))

pub returns-clause-extras : goal.returns-clause-extras
returns-clause-extras g c =
    sym (append-nil (map Some c.loop-slot.room.extras.items)) ∙ (ap (λ (ss : List (Slot _ _)). map Some c.loop-slot.room.extras.items ++ extras_of ss) (sym (none_left g c)) ∙ (c.loop-slot.invariant.taken ∙ search rules))
