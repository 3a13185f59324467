-- What a whole input's size says of its lines.
use Rattle.std.proofs.Common.{◌≡◌, ◌≤◌, ℕ, ◌+◌, ◌-◌, true, false, Option, Some, None, Err, List, length, length-append, length-drop, take, drop, get_or, refl, sym, ap, ◌∙◌, arith, All}
use Rattle.std.proofs.lemmas.List.{length-take-le, take_all, take_at, drop_at}
use Rattle.session_book.specs.Meaning.{JobView}
use Rattle.job_text.specs.Meaning.{Present, LineView, lines_of, IsBadAt, IsRefusal, Spells}
use Rattle.job_text.specs.declared.grammar.Grammar.{Grammar}
use Rattle.job_text.specs.Refusals.{IsRead, AnswersOnly}
use Rattle.job_text.specs.declared.jobs.JobFault.{JobFault}
use Rattle.job_text.specs.declared.jobs.JobFault.TheVariants as fault
use Rattle.job_text.specs.declared.jobs.ReadJob.{ReadJob}
use Rattle.job_text.proofs.Laws.{IsFew, listings_few, never_bad, lines_count}
use Rattle.report_text.specs.Conditions.{HasFewLines}
use Rattle.job_input.specs.Meaning.{SourceChange, CameWhole, HasJob}
use Rattle.job_input.specs.Inputs.{CameJobless, IsInput}
use Rattle.job_input.specs.declared.form.Form.{Form}
use Rattle.job_input.specs.declared.reading.Input.{Input}

few_of : {g : Grammar} (lines : List LineView) (j : JobView) → length lines ≤ 16777216 → Spells g Present lines j → HasFewLines j
few_of lines j most s =
    let few : All (IsFew (length lines)) j.listings = listings_few lines j s in
    λ k d l. fewer (length lines) (get_or j.listings k d) most (few k d l)
  where
    fewer : (n : ℕ) (o : Option (List (List ℕ))) → n ≤ 16777216 → IsFew n o → IsFew 16777216 o
    fewer n None h f = tt
    fewer n (Some texts) h f = omega (arith, h, f)

-- a listing's lines are lines of the input
pub few_first : {g : Grammar} (bytes : List ℕ) (r : ReadJob) → length bytes ≤ 16777216 → IsRead g bytes r → HasFewLines r.job
few_first bytes r most read =
    let size : length (lines_of bytes) ≡ length (lines_of (take r.end bytes)) + length (lines_of (drop r.end bytes)) = ap length read.parted ∙ length-append (lines_of (take r.end bytes)) (lines_of (drop r.end bytes)) in
    few_of (lines_of (take r.end bytes)) r.job (omega (arith, size, most, lines_count bytes)) read.spells

-- the lines of the job, and the bytes behind it, are no more than all bytes
pub behind_few : {g : Grammar} (bytes : List ℕ) (r : ReadJob) (rest : List ℕ) → length bytes ≤ 16777216 → IsRead g bytes r → rest ≡ drop r.end bytes → r.lines + length rest ≤ 16777216
behind_few bytes r rest most read behind =
    let front : length (take r.end bytes) ≡ r.end = length-take-le r.end bytes read.inside in
    let back : length rest ≡ length bytes - r.end = ap length behind ∙ length-drop r.end bytes in
    omega (arith, front, back, most, read.inside, read.count, lines_count (take r.end bytes))

-- the job that the first lines spell, and what stands behind them
pub input_is : (form : Form) (s : SourceChange) (bytes : List ℕ) (r : ReadJob) (i : Input) → i.job ≡ r.job → i.lines ≡ r.lines → CameWhole s bytes → IsRead form.grammar bytes r → (form.more ≡ false → r.end ≡ length bytes) → (form.more ≡ true → i.rest.items ≡ drop r.end bytes) →
    IsInput form s i
input_is form s bytes r i job lines came read whole behind =
    let head : List LineView = lines_of (take r.end bytes) in
    let tail : List LineView = lines_of (drop r.end bytes) in
    let first : take r.lines (lines_of bytes) ≡ head = ap (λ (l : List LineView). take r.lines l) read.parted ∙ take_at head tail r.lines read.count in
    let back : drop r.lines (lines_of bytes) ≡ tail = ap (λ (l : List LineView). drop r.lines l) read.parted ∙ drop_at head tail r.lines read.count in
    let over : form.more ≡ false → r.lines ≡ length (lines_of bytes) = λ e. sym read.count ∙ ap (λ (b : List ℕ). length (lines_of b)) (take_all r.end bytes (omega (arith, whole e))) in
    rw (job, lines) (record {
      came = record {
        bytes = bytes;
        came = came;
        has = record { count = r.lines; inside = omega (arith, ap length read.parted, length-append head tail, read.count); spells = rw first read.spells; within = read.within; over = over };
        counts = refl;
        behind = λ m. ap lines_of (behind m) ∙ sym back;
      };
      few = few_first bytes r came.within read;
      numbers = λ m. behind_few bytes r i.rest.items came.within read (behind m);
    })

-- the reader's fault
pub jobless_is : (form : Form) (s : SourceChange) (bytes : List ℕ) (e : JobFault) → CameWhole s bytes → IsRefusal form.grammar (lines_of bytes) e →
    AnswersOnly form.grammar (lines_of bytes) (Err e) → CameJobless form s e
jobless_is form s bytes e came first only = record {
  bytes = bytes;
  came = came;
  is = record { first = first; jobless = λ j has. only has.count j has.inside has.spells has.within };
}

-- a bad line behind the job, where nothing may stand there
pub over_is : (form : Form) (s : SourceChange) (bytes : List ℕ) (n : ℕ) → CameWhole s bytes → form.more ≡ false → IsBadAt form.grammar (lines_of bytes) n → CameJobless form s (fault.BadJob n)
over_is form s bytes n came alone bad = record {
  bytes = bytes;
  came = came;
  is = record { first = bad; jobless = λ j has. absurd (never_bad (lines_of bytes) j n (all_spell (lines_of bytes) j has) bad) };
}
  where
    all_spell : (ls : List LineView) (j : JobView) → HasJob form ls j → Spells form.grammar Present ls j
    all_spell ls j has = let most : length ls ≤ has.count = omega (arith, has.over alone) in rw (take_all has.count ls most) at has.spells
