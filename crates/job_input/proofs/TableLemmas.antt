-- The tables of a job, module by module.
use Rattle.std.proofs.Common.{◌≡◌, ◌⊎◌, inl, inr, ℕ, ◌+◌, ◌-◌, ◌<◌, ◌≤◌, Option, Some, None, is_none, is_some, true, false, List, [], ◌∷◌, ◌++◌, length, length-append, get_or, drop, append_assoc, append-nil, subst, refl, sym, ◌∙◌, ap, arith, All}
use Rattle.std.specs.Prelude.{AllPairs}
use Rattle.std.proofs.lemmas.List.{get_or-drop, drop_more, drop_all}
use Rattle.std.proofs.lemmas.List.Elements.{All-push}
use Rattle.std.proofs.lemmas.List.Quantifiers.{all_pairs_push}
use Rattle.cov_base.specs.Meaning.{ImageView}
use Rattle.listing_reader.specs.Meaning.{listing_of, fault_of}
use Rattle.listing_reader.specs.declared.lines.Line.{Line}
use Rattle.listing_reader.specs.declared.lines.ListFault.{ListFault}
use Rattle.listing_reader.proofs.Laws.{listing_or_fault}
use Rattle.module_area.specs.declared.places.Place.{Place}
use Rattle.brk_table.specs.Meaning.{first_fault, TableView, TablesView, all_places}
use Rattle.brk_table.specs.Build.{HasOwnPlaces}
use Rattle.module_area.specs.Images.{AreImages}
use Rattle.brk_table.specs.Kept.{AreCodes}
use Rattle.brk_table.specs.Together.{IsTableOf, AreTables}
use Rattle.brk_table.proofs.Laws.{all_met}
use Rattle.report_text.specs.Conditions.{HasFewLines}
use Rattle.brk_table.specs.declared.faults.BuildFault.{BuildFault}
use Rattle.brk_table.specs.declared.faults.BuildFault.TheVariants as fault
use Rattle.session_book.specs.Meaning.{JobView, no_module}
use Rattle.job_input.specs.Meaning.{build_fault, fault_from, job_fault, listing_fault, code_line_count, AreTablesFrom, IsTableOf as IsModuleTable}
use Rattle.job_input.specs.Faults.{IsFaultOf}
use Rattle.job_input.specs.Tables.{IsReadyJob}

-- the tables of the modules before module m; the first fault is that of the listings from m on
pub record TablesBefore (j : JobView) (m room : ℕ) (tables : List TableView) : Type 0 where
  pub fault : job_fault j ≡ fault_from room (drop m j.images) (drop m j.listings)
  pub rest : (later : List TableView) → AreTablesFrom m (drop m j.images) (drop m j.listings) later → AreTablesFrom 0 j.images j.listings (tables ++ later)
  pub of : All (IsTableOf j.images) tables
  pub rising : AllPairs (λ (t u : TableView). t.«module» < u.«module») tables
  pub below : All (λ (t : TableView). t.«module» < m) tables
  pub fits : room + length (all_places tables) ≡ 65536

-- module m has no listing
pub tables_skip : (j : JobView) (m room : ℕ) (tables : List TableView) → m < length j.images → drop m j.listings ≡ None ∷ drop (m + 1) j.listings →
    TablesBefore j m room tables → TablesBefore j (m + 1) room tables
tables_skip j m room tables here l p =
    let e : drop m j.images ≡ get_or j.images m no_module ∷ drop (m + 1) j.images = drop_more j.images m no_module here in
    record {
      fault = p.fault ∙ rw (e, l) refl;
      rest = λ later h. p.rest later (rw (e, l) h);
      of = p.of;
      rising = p.rising;
      below = λ k d b. omega (arith, p.below k d b);
      fits = p.fits;
    }

length-places_push : (tables : List TableView) (t : TableView) → length (all_places (tables ++ t ∷ [])) ≡ length (all_places tables) + length t.places
length-places_push [] t = omega (arith, length-append {A = Place} t.places [])
length-places_push (u ∷ us) t = omega (arith, length-append {A = Place} u.places (all_places (us ++ t ∷ [])), length-append {A = Place} u.places (all_places us), length-places_push us t)

-- module m's table is added
pub tables_more : (j : JobView) (m room : ℕ) (tables : List TableView) (image : ImageView) (texts : List (List ℕ)) (t : TableView) → drop m j.images ≡ image ∷ drop (m + 1) j.images → drop m j.listings ≡ Some texts ∷ drop (m + 1) j.listings →
    m < length j.images → listing_fault image room texts ≡ None → IsModuleTable m image texts t → HasOwnPlaces m image t → length t.places ≡ code_line_count (listing_of texts) → length t.places ≤ room →
    TablesBefore j m room tables → TablesBefore j (m + 1) (room - length t.places) (tables ++ t ∷ [])
tables_more j m room tables image texts t e l here none is own count fits p =
    let at : m + 0 ≡ m = omega arith in
    let first : image ≡ get_or j.images m image = sym (ap (λ (i : List ImageView). get_or i 0 image) e) ∙ (get_or-drop m j.images 0 image ∙ ap (λ n. get_or j.images n image) at) in
    let added : IsTableOf j.images t = record {
      image = image;
      exists = rw own.of here;
      is = ap (λ n. get_or j.images n image) own.of ∙ sym first;
      own = subst (λ n. HasOwnPlaces n image t) (sym own.of) own;
    } in
    record {
      fault = p.fault ∙ rw (e, l, none, count) refl;
      rest = λ later h. (let joined : AreTablesFrom 0 j.images j.listings (tables ++ t ∷ later) = p.rest (t ∷ later) (rw (e, l) (is, h)) in
          rw (append_assoc tables (t ∷ []) later) joined);
      of = All-push (IsTableOf j.images) tables t p.of added;
      rising = all_pairs_push (λ (u v : TableView). u.«module» < v.«module») tables t p.rising (λ k d b. rw own.of (p.below k d b));
      below = All-push (λ (u : TableView). u.«module» < m + 1) tables t (λ k d b. omega (arith, p.below k d b)) (omega (arith, own.of));
      fits = omega (arith, p.fits, fits, length-places_push tables t);
    }

-- behind the last module they are all, and there is no fault
pub tables_all : (j : JobView) (m room : ℕ) (tables : List TableView) → length j.images ≤ m → length j.listings ≡ length j.images → TablesBefore j m room tables → AreTablesFrom 0 j.images j.listings tables
tables_all j m room tables past same p =
    let images : drop m j.images ≡ [] = drop_all m j.images past in
    let listings : drop m j.listings ≡ [] = drop_all m j.listings (omega arith) in
    let all : AreTablesFrom 0 j.images j.listings (tables ++ []) = p.rest [] (rw (images, listings) tt) in
    rw (append-nil tables) at all

pub tables_faultless : (j : JobView) (m room : ℕ) (tables : List TableView) → length j.images ≤ m → TablesBefore j m room tables → job_fault j ≡ None
tables_faultless j m room tables past p =
    let images : drop m j.images ≡ [] = drop_all m j.images past in
    p.fault ∙ rw images refl

-- a listing that is read has no fault
none_some : (a : Option (List Line)) (b : Option ListFault) (v : List Line) → is_none a ≡ is_some b → a ≡ Some v → b ≡ None
none_some a None v h e = refl
none_some a (Some f) v h e = let q : false ≡ true = ap is_none (sym e) ∙ h in absurd cc

pub no_fault : (texts : List (List ℕ)) (lines : List Line) → listing_of texts ≡ Some lines → fault_of texts ≡ None
no_fault texts lines h = none_some (listing_of texts) (fault_of texts) lines (listing_or_fault texts) h

pub no_listing_fault : (image : ImageView) (room : ℕ) (texts : List (List ℕ)) (lines : List Line) → listing_of texts ≡ Some lines →
    first_fault image.bytes room [] lines ≡ None → listing_fault image room texts ≡ None
no_listing_fault image room texts lines l h = rw (no_fault texts lines l, l, h) refl

-- and its table's fault is the module's
pub build_told : (image : ImageView) (room : ℕ) (texts : List (List ℕ)) (lines : List Line) (e : BuildFault) → listing_of texts ≡ Some lines →
    (e ≡ fault.NoMemory) ⊎ (first_fault image.bytes room [] lines ≡ Some e) → IsFaultOf (listing_fault image room texts) (build_fault image.name lines e)
build_told image room texts lines e l (inl wanting) = inl (ap (build_fault image.name lines) wanting)
build_told image room texts lines e l (inr h) = inr (rw (no_fault texts lines l, l, h) refl)

-- what the tables of a job without a fault are
pub is_ready : (j : JobView) (ts : List TableView) (t : TablesView) → HasFewLines j → job_fault j ≡ None → AreTablesFrom 0 j.images j.listings ts → AreImages j.images → AreTables j.images ts →
    t.tables ≡ ts → t.places ≡ all_places ts → AreCodes j.images t → IsReadyJob j t
is_ready j ts t few none are images own tables places codes = record {
  few = few;
  matching = record { faultless = none; tables_of = rw tables are; numbered = rw tables places };
  own = rw tables own;
  places = rw places (all_met j.images ts images own).in_images;
  codes = codes;
}
