-- What looks at tasks' words make of a pass's notes, and what they tell.
use Rattle.std.proofs.Common.{◌≡◌, ◌≢◌, ℕ, zero, suc, ◌+◌, ◌%◌, ◌<◌, ◌≤◌, Bool, true, false, not, if◌then◌else◌, ◌&&◌, ◌||◌, nat_eq, nat_lt, Option, Some, None, List, [], ◌∷◌, ◌++◌, length, get_or, map, drop, All, inl, inr, refl, sym, ◌∙◌, ap, subst, arith, eqb-true, eq-eqb, lt-ltb, append_assoc}
use Rattle.std.proofs.lemmas.Bool.{and_parts, and_from, or_left, or_right}
use Rattle.std.specs.List.{list_any, list_all}
use Rattle.std.proofs.Math.ListN.{set}
use Rattle.std.proofs.lemmas.List.{drop_more, get_or-map}
use Rattle.std.proofs.lemmas.List.Folds.{list_any-append}
use Rattle.std.proofs.lemmas.List.Elements.{All-tail, All-cons}
use Rattle.cov_base.specs.declared.numbers.TaskNo.{TaskNo}
use Rattle.module_area.specs.Meaning.{PlanView}
use Rattle.module_area.specs.Notes.{Notes, NotedView, IsWord, after_note, is_closed, is_own, is_past, is_drained}
use Rattle.module_area.proofs.Laws.{any_at, any_shown}
use Rattle.early_report.specs.Meaning.{others}
use Rattle.early_report.specs.Drains.{is_noted, Begins, Polls, IsLooking, is_odd}

-- looks one after the other

pub looking_none : (n : Notes) → IsLooking n n
looking_none n = record { more = []; same = refl; known = λ s p x h. h }

pub looking_trans : (a b c : Notes) → IsLooking a b → IsLooking b c → IsLooking a c
looking_trans a b c x y = record {
  more = y.more ++ x.more;
  same = y.same ∙ (ap (λ (n : Notes). record n { noted = y.more ++ n.noted; settled = c.settled; found = c.found }) x.same ∙ ap (λ (es : List NotedView). record a { noted = es; settled = c.settled; found = c.found }) (sym (append_assoc y.more x.more a.noted)));
  known = λ s p s_x h. y.known s p s_x (x.known s p s_x h);
}

pub looking_noted : (n : Notes) (t found : ℕ) → IsLooking n (after_note n t found)
looking_noted n t found = record { more = record { task = t; number = found; seen = n.seen } ∷ []; same = refl; known = λ s p x h. h }

pub noted_by : (old new : Notes) (r : IsLooking old new) → new.noted ≡ r.more ++ old.noted
noted_by old new r = ap (λ (n : Notes). n.noted) r.same

same_looking : (old new : Notes) → new ≡ old → IsLooking old new
same_looking old new e = subst (IsLooking old) (sym e) (looking_none old)

-- what some look tells, further looks leave
any_more : {X : Type 0} (p : X → Bool) (xs ys : List X) → list_any p ys ≡ true → list_any p (xs ++ ys) ≡ true
any_more p xs ys h = list_any-append p xs ys ∙ or_right (list_any p xs) (list_any p ys) h

any_map : {X : Type 0} (p q : X → Bool) (xs : List X) → ((x : X) → p x ≡ true → q x ≡ true) → list_any p xs ≡ true → list_any q xs ≡ true
any_map p q [] each h = h
any_map p q (x ∷ xs) each h = by_test (p x) refl h (any_map p q xs each)
  where
    by_test : (b : Bool) → p x ≡ b → (b || list_any p xs) ≡ true → (list_any p xs ≡ true → list_any q xs ≡ true) → list_any q (x ∷ xs) ≡ true
    by_test true e k rest = or_left (q x) (list_any q xs) (each x e)
    by_test false e k rest = or_right (q x) (list_any q xs) (rest k)

and_more : (a b c : Bool) → (b ≡ true → c ≡ true) → (a && b) ≡ true → (a && c) ≡ true
and_more a b c more h = and_from a c (and_parts a b h).0 (more (and_parts a b h).1)

or_more : (a b c : Bool) → (b ≡ true → c ≡ true) → (a || b) ≡ true → (a || c) ≡ true
or_more true b c more h = refl
or_more false b c more h = more h

pub past_more : (plan : PlanView) (more noted : List NotedView) (s t : ℕ) → is_past plan noted s t ≡ true → is_past plan (more ++ noted) s t ≡ true
past_more plan more noted s t h =
    any_more (λ (e : NotedView). nat_eq e.task t && (is_closed plan e.seen s && (nat_eq (e.number % 2) 1 || list_any (λ (d : NotedView). nat_eq d.task t && nat_lt e.number d.number) (more ++ noted)))) more noted
    (any_map (λ (e : NotedView). nat_eq e.task t && (is_closed plan e.seen s && (nat_eq (e.number % 2) 1 || list_any (λ (d : NotedView). nat_eq d.task t && nat_lt e.number d.number) noted)))
    (λ (e : NotedView). nat_eq e.task t && (is_closed plan e.seen s && (nat_eq (e.number % 2) 1 || list_any (λ (d : NotedView). nat_eq d.task t && nat_lt e.number d.number) (more ++ noted)))) noted
    (λ e k. and_more (nat_eq e.task t) _ _
    (and_more (is_closed plan e.seen s) _ _
    (or_more (nat_eq (e.number % 2) 1) _ _ (any_more (λ (d : NotedView). nat_eq d.task t && nat_lt e.number d.number) more noted))) k) h)

pub noted_more : (plan : PlanView) (old new : Notes) (more : List NotedView) (s t number : ℕ) → new.noted ≡ more ++ old.noted → is_noted plan old s t number ≡ true → is_noted plan new s t number ≡ true
noted_more plan old new more s t number e h = rw e (any_more (λ (e : NotedView). nat_eq e.task t && (nat_eq e.number number && is_closed plan e.seen s)) more old.noted h)

drained_more : (plan : PlanView) (o : Option ℕ) (more noted : List NotedView) (s : ℕ) (tasks : List TaskNo) →
    list_all (λ (u : TaskNo). is_own o u.0 || is_past plan noted s u.0) tasks ≡ true → list_all (λ (u : TaskNo). is_own o u.0 || is_past plan (more ++ noted) s u.0) tasks ≡ true
drained_more plan o more noted s [] h = refl
drained_more plan o more noted s (u ∷ us) h = and_from _ _
    (or_more (is_own o u.0) (is_past plan noted s u.0) _ (past_more plan more noted s u.0) (and_parts _ _ h).0)
    (drained_more plan o more noted s us (and_parts (is_own o u.0 || is_past plan noted s u.0) _ h).1)

pub is_drained_more : (plan : PlanView) (old new : Notes) (more : List NotedView) (s : ℕ) → new.noted ≡ more ++ old.noted → new.bears ≡ old.bears → is_drained plan old s ≡ true → is_drained plan new s ≡ true
is_drained_more plan old new more s e bears h = rw (e, bears) (drained_more plan old.bears more old.noted s plan.tasks h)

-- a look that found an odd number, when the session was known as closed, tells that its task is past it
pub odd_past : (plan : PlanView) (n : Notes) (s t number : ℕ) → is_noted plan n s t number ≡ true → is_odd number ≡ true → is_past plan n.noted s t ≡ true
odd_past plan n s t number h odd = any_map
    (λ (e : NotedView). nat_eq e.task t && (nat_eq e.number number && is_closed plan e.seen s))
    (λ (e : NotedView). nat_eq e.task t && (is_closed plan e.seen s && (nat_eq (e.number % 2) 1 || list_any (λ (d : NotedView). nat_eq d.task t && nat_lt e.number d.number) n.noted))) n.noted
    (λ e k. and_more (nat_eq e.task t) (nat_eq e.number number && is_closed plan e.seen s) _
    (λ x. and_from (is_closed plan e.seen s) _ (and_parts (nat_eq e.number number) _ x).1 (or_left (nat_eq (e.number % 2) 1) _ (ap (λ k. nat_eq (k % 2) 1) (eqb-true e.number number (and_parts _ _ x).0) ∙ odd))) k) h

-- and so does one whose number another look finds passed
pub gone_past : (plan : PlanView) (n : Notes) (s t number found : ℕ) → is_noted plan n s t number ≡ true → IsWord n t found → found ≢ number → is_past plan (after_note n t found).noted s t ≡ true
gone_past plan n s t number found h word other =
    let none : NotedView = record { task = 0; number = 0; seen = n.seen } in
    let at = any_at (λ (e : NotedView). nat_eq e.task t && (nat_eq e.number number && is_closed plan e.seen s)) n.noted none h in
    let e : NotedView = get_or n.noted at.0 none in
    let its : nat_eq e.task t ≡ true = (and_parts _ _ at.2).0 in
    let rest : (nat_eq e.number number && is_closed plan e.seen s) ≡ true = (and_parts (nat_eq e.task t) _ at.2).1 in
    let same : e.number ≡ number = eqb-true e.number number (and_parts _ _ rest).0 in
    let least : e.number ≤ found = word.noted at.0 none at.1 (eqb-true e.task t its) in
    let less : nat_lt e.number found ≡ true = lt-ltb e.number found (omega (arith, same, least, other)) in
    let seen : is_closed plan e.seen s ≡ true = (and_parts (nat_eq e.number number) _ rest).1 in
    let first : list_any (λ (d : NotedView). nat_eq d.task t && nat_lt e.number d.number) (after_note n t found).noted ≡ true =
    or_left (nat_eq t t && nat_lt e.number found) _ (and_from (nat_eq t t) (nat_lt e.number found) (eq-eqb t t refl) less) in
    any_more (λ (e : NotedView). nat_eq e.task t && (is_closed plan e.seen s && (nat_eq (e.number % 2) 1 || list_any (λ (d : NotedView). nat_eq d.task t && nat_lt e.number d.number) (after_note n t found).noted)))
    (record { task = t; number = found; seen = n.seen } ∷ []) n.noted
    (any_shown (λ (e : NotedView). nat_eq e.task t && (is_closed plan e.seen s && (nat_eq (e.number % 2) 1 || list_any (λ (d : NotedView). nat_eq d.task t && nat_lt e.number d.number) (after_note n t found).noted)))
    n.noted none at.0 at.1 (and_from _ _ its (and_from _ _ seen (or_right (nat_eq (e.number % 2) 1) _ first))))

-- the looks with which a drain begins
pub Begins-looks : (old new : Notes) (ts : List TaskNo) (es : List (TaskNo × ℕ)) → Begins old new ts es → IsLooking old new
Begins-looks old new [] [] b = same_looking old new b
Begins-looks old new [] (e ∷ es) b = absurd b
Begins-looks old new (t ∷ ts) [] b = absurd b
Begins-looks old new (t ∷ ts) (e ∷ es) b = looking_trans old (after_note old t.0 e.1) new (looking_noted old t.0 e.1) (Begins-looks (after_note old t.0 e.1) new ts es b.2)

pub Begins-tasks : (old new : Notes) (ts : List TaskNo) (es : List (TaskNo × ℕ)) → Begins old new ts es → map (λ (e : TaskNo × ℕ). e.0) es ≡ ts
Begins-tasks old new [] [] b = refl
Begins-tasks old new [] (e ∷ es) b = absurd b
Begins-tasks old new (t ∷ ts) [] b = absurd b
Begins-tasks old new (t ∷ ts) (e ∷ es) b = rw (b.0, Begins-tasks (after_note old t.0 e.1) new ts es b.2) refl

pub Begins-noted : (plan : PlanView) (s : ℕ) (old new : Notes) (ts : List TaskNo) (es : List (TaskNo × ℕ)) → is_closed plan old.seen s ≡ true → Begins old new ts es →
    All (λ (e : TaskNo × ℕ). is_noted plan new s e.0.0 e.1 ≡ true) es
Begins-noted plan s old new [] [] closed b = λ i d l. absurd (omega arith)
Begins-noted plan s old new [] (e ∷ es) closed b = absurd b
Begins-noted plan s old new (t ∷ ts) [] closed b = absurd b
Begins-noted plan s old new (t ∷ ts) (e ∷ es) closed b =
    let rest = Begins-looks (after_note old t.0 e.1) new ts es b.2 in
    let here : is_noted plan (after_note old t.0 e.1) s e.0.0 e.1 ≡ true =
    or_left (nat_eq t.0 e.0.0 && (nat_eq e.1 e.1 && is_closed plan old.seen s)) _ (and_from _ _ (eq-eqb t.0 e.0.0 (sym (ap (λ (u : TaskNo). u.0) b.0))) (and_from _ _ (eq-eqb e.1 e.1 refl) closed)) in
    All-cons (λ (e : TaskNo × ℕ). is_noted plan new s e.0.0 e.1 ≡ true) e es
    (noted_more plan (after_note old t.0 e.1) new rest.more s e.0.0 e.1 (noted_by (after_note old t.0 e.1) new rest) here)
    (Begins-noted plan s (after_note old t.0 e.1) new ts es closed b.2)

-- one look more at the front
pub Begins-next : (old new : Notes) (ts : List TaskNo) (es : List (TaskNo × ℕ)) (i number : ℕ) (t : TaskNo) → i < length ts → get_or ts i t ≡ t → IsWord old t.0 number →
    Begins (after_note old t.0 number) new (drop (i + 1) ts) es → Begins old new (drop i ts) ((t, number) ∷ es)
Begins-next old new ts es i number t l at word rest = rw (drop_more ts i t l, at) (refl, word, rest)

-- the looks of a poll
pub Polls-looks : (old new : Notes) (es : List (TaskNo × ℕ)) (answer : Option (TaskNo × ℕ)) → Polls old new es answer → IsLooking old new
Polls-looks old new [] answer p = same_looking old new p.0
Polls-looks old new (e ∷ es) answer (inl p) = Polls-looks old new es answer p.1
Polls-looks old new (e ∷ es) answer (inr p) = elim p.3 [
  | inl q ↦ subst (IsLooking old) (sym q.1) (looking_noted old e.0.0 p.1)
  | inr q ↦ looking_trans old (after_note old e.0.0 p.1) new (looking_noted old e.0.0 p.1) (Polls-looks (after_note old e.0.0 p.1) new es answer q.1)
]

pub record Stops (plan : PlanView) (s : ℕ) (new : Notes) (es : List (TaskNo × ℕ)) (answer : Option (TaskNo × ℕ)) : Type 0 where
  pub all : answer ≡ None → All (λ (e : TaskNo × ℕ). is_past plan new.noted s e.0.0 ≡ true) es
  pub some : (x : TaskNo × ℕ) → answer ≡ Some x → (k : ℕ) × (k < length es) × (get_or es k x ≡ x) × ((i : ℕ) → i < k → is_past plan new.noted s (get_or es i x).0.0 ≡ true)

Stops-later : (plan : PlanView) (s : ℕ) (new : Notes) (e : TaskNo × ℕ) (es : List (TaskNo × ℕ)) (answer : Option (TaskNo × ℕ)) → is_past plan new.noted s e.0.0 ≡ true → Stops plan s new es answer → Stops plan s new (e ∷ es) answer
Stops-later plan s new e es answer past r = record {
  all = λ none. All-cons (λ (e : TaskNo × ℕ). is_past plan new.noted s e.0.0 ≡ true) e es past (r.all none);
  some = λ x is. let a = r.some x is in (suc a.0, (let l = a.1 in omega arith), a.2, before x a.0 a.3);
}
  where
    before : (x : TaskNo × ℕ) (k : ℕ) → ((i : ℕ) → i < k → is_past plan new.noted s (get_or es i x).0.0 ≡ true) → (i : ℕ) → i < suc k → is_past plan new.noted s (get_or (e ∷ es) i x).0.0 ≡ true
    before x k rest zero l = past
    before x k rest (suc i) l = rest i (omega arith)

-- each entry before the one at which the poll stops, or all, are past
pub Polls-past : (plan : PlanView) (s : ℕ) (old new : Notes) (es : List (TaskNo × ℕ)) (answer : Option (TaskNo × ℕ)) → All (λ (e : TaskNo × ℕ). is_noted plan old s e.0.0 e.1 ≡ true) es → Polls old new es answer → Stops plan s new es answer
Polls-past plan s old new [] answer noted p = record { all = λ none i d l. absurd (omega arith); some = λ x is. let z : None ≡ Some x = sym p.1 ∙ is in absurd cc }
Polls-past plan s old new (e ∷ es) answer noted (inl p) =
    let r = Polls-looks old new es answer p.1 in
    let past : is_past plan new.noted s e.0.0 ≡ true = rw (noted_by old new r) (past_more plan r.more old.noted s e.0.0 (odd_past plan old s e.0.0 e.1 (noted 0 e (omega arith)) p.0)) in
    Stops-later plan s new e es answer past (Polls-past plan s old new es answer (All-tail (λ (e : TaskNo × ℕ). is_noted plan old s e.0.0 e.1 ≡ true) e es noted) p.1)
Polls-past plan s old new (e ∷ es) answer noted (inr p) = elim p.3 [
  | inl q ↦ record {
    all = λ none. let z : Some e ≡ None = sym q.2 ∙ none in absurd cc;
    some = λ x is. let same : Some e ≡ Some x = sym q.2 ∙ is in (0, omega arith, (let z : e ≡ x = cc in z), λ i l. absurd (omega arith));
  }
  | inr q ↦
      let mid : Notes = after_note old e.0.0 p.1 in
      let r = Polls-looks mid new es answer q.1 in
      let past : is_past plan new.noted s e.0.0 ≡ true = rw (noted_by mid new r) (past_more plan r.more mid.noted s e.0.0 (gone_past plan old s e.0.0 e.1 p.1 (noted 0 e (omega arith)) p.2 q.0)) in
      Stops-later plan s new e es answer past (Polls-past plan s mid new es answer (λ i d l. noted_more plan old mid (record { task = e.0.0; number = p.1; seen = old.seen } ∷ []) s _ _ refl (noted (suc i) d (omega arith))) q.1)
]

-- a poll stops at an entry whose number is even
pub Polls-working : (old new : Notes) (es : List (TaskNo × ℕ)) (answer : Option (TaskNo × ℕ)) → Polls old new es answer → (x : TaskNo × ℕ) → answer ≡ Some x → is_odd x.1 ≡ false
Polls-working old new [] answer p x is = let z : None ≡ Some x = sym p.1 ∙ is in absurd cc
Polls-working old new (e ∷ es) answer (inl p) x is = Polls-working old new es answer p.1 x is
Polls-working old new (e ∷ es) answer (inr p) x is = elim p.3 [
  | inl q ↦ let same : Some e ≡ Some x = sym q.2 ∙ is in let z : e ≡ x = cc in ap (λ (y : TaskNo × ℕ). is_odd y.1) (sym z) ∙ p.0
  | inr q ↦ Polls-working (after_note old e.0.0 p.1) new es answer q.1 x is
]

-- where all tasks but its own are past, the pass has drained the session
all_others : (o : Option ℕ) (t : ℕ) (f : ℕ → Bool) (tasks : List TaskNo) → o ≡ Some t → All (λ (u : TaskNo). f u.0 ≡ true) (others tasks t) → list_all (λ (u : TaskNo). is_own o u.0 || f u.0) tasks ≡ true
all_others o t f [] own all = refl
all_others o t f (u ∷ us) own all = by_test (nat_eq u.0 t) refl all (all_others o t f us own)
  where
    by_test : (b : Bool) → nat_eq u.0 t ≡ b → All (λ (u : TaskNo). f u.0 ≡ true) (if not b then u ∷ others us t else others us t) →
        (All (λ (u : TaskNo). f u.0 ≡ true) (others us t) → list_all (λ (u : TaskNo). is_own o u.0 || f u.0) us ≡ true) → list_all (λ (u : TaskNo). is_own o u.0 || f u.0) (u ∷ us) ≡ true
    by_test true e here rest = and_from _ _ (or_left (is_own o u.0) (f u.0) (rw own (eq-eqb t u.0 (sym (eqb-true u.0 t e))))) (rest here)
    by_test false e here rest = and_from _ _ (or_right (is_own o u.0) (f u.0) (here 0 u (omega arith))) (rest (All-tail (λ (u : TaskNo). f u.0 ≡ true) u (others us t) here))

All-tasks : (P : TaskNo → Type 0) (es : List (TaskNo × ℕ)) → All (λ (e : TaskNo × ℕ). P e.0) es → All P (map (λ (e : TaskNo × ℕ). e.0) es)
All-tasks P [] all = λ i d l. absurd (omega arith)
All-tasks P (e ∷ es) all = All-cons P e.0 (map (λ (e : TaskNo × ℕ). e.0) es) (all 0 e (omega arith)) (All-tasks P es (All-tail (λ (e : TaskNo × ℕ). P e.0) e es all))

pub drained_by : (plan : PlanView) (n : Notes) (s t : ℕ) (es : List (TaskNo × ℕ)) → n.bears ≡ Some t → map (λ (e : TaskNo × ℕ). e.0) es ≡ others plan.tasks t →
    All (λ (e : TaskNo × ℕ). is_past plan n.noted s e.0.0 ≡ true) es → is_drained plan n s ≡ true
drained_by plan n s t es own tasks all = all_others n.bears t (λ u. is_past plan n.noted s u) plan.tasks own
    (subst (All (λ (u : TaskNo). is_past plan n.noted s u.0 ≡ true)) tasks (All-tasks (λ (u : TaskNo). is_past plan n.noted s u.0 ≡ true) es all))

-- entries whose number changes keep their task
abbrev pub no_entry : TaskNo × ℕ
no_entry = (record { 0 = 0 }, 0)

pub task_at : (es : List (TaskNo × ℕ)) (i : ℕ) (d : TaskNo) → i < length es → get_or (map (λ (e : TaskNo × ℕ). e.0) es) i d ≡ (get_or es i no_entry).0
task_at es i d l = get_or-map (λ (e : TaskNo × ℕ). e.0) es i no_entry d l

pub same_task : (es fs : List (TaskNo × ℕ)) (i : ℕ) → map (λ (e : TaskNo × ℕ). e.0) es ≡ map (λ (e : TaskNo × ℕ). e.0) fs → i < length es → i < length fs → (get_or es i no_entry).0 ≡ (get_or fs i no_entry).0
same_task es fs i same l m = sym (task_at es i no_entry.0 l) ∙ ap (λ (ts : List TaskNo). get_or ts i no_entry.0) same ∙ task_at fs i no_entry.0 m

pub tasks_stay : (es : List (TaskNo × ℕ)) (i number : ℕ) → map (λ (e : TaskNo × ℕ). e.0) (set es i ((get_or es i no_entry).0, number)) ≡ map (λ (e : TaskNo × ℕ). e.0) es
tasks_stay [] i number = refl
tasks_stay (e ∷ es) zero number = refl
tasks_stay (e ∷ es) (suc i) number = ap (λ (ts : List TaskNo). e.0 ∷ ts) (tasks_stay es i number)
