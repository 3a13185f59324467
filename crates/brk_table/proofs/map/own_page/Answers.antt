use Rattle.brk_table.proofs.MapLemmas.{own_pages, own_same}
use Rattle.brk_table.proofs.map.own_page.Goals as goal

pub returns-in_ok-extend_from_slice-clause-pages : goal.returns-in_ok-extend_from_slice-clause-pages
returns-in_ok-extend_from_slice-clause-pages c = rw (c.in_ok-extend_from_slice.ensures.items, c.len.ensures, c.args.entries.now.ok.0) (own_pages c.args.pages.now c.args.entries.now.items c.args.k c.requires.pages c.requires.page)

pub returns-in_ok-extend_from_slice-clause-same : goal.returns-in_ok-extend_from_slice-clause-same
returns-in_ok-extend_from_slice-clause-same c = rw (c.in_ok-extend_from_slice.ensures.items, c.len.ensures, c.args.entries.now.ok.0) (own_same c.args.pages.now c.args.entries.now.items c.args.k c.requires.pages c.requires.page c.if-pages-k-eq0.true)
