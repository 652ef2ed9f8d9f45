use Rattle.std.proofs.Common.{set, get_or, sym, ap, ◌∙◌, arith}
use Rattle.std.proofs.lemmas.List.{length-set}
use Rattle.queues.specs.Places.{view_of}
use Rattle.protocol.specs.declared.pages.HomePage.{HomePage as HomePageOver}
use Rattle.protocol.specs.Machines.{page_meaning}
use Rattle.calls.specs.Memory.{memory}
use Rattle.calls.proofs.Answering.{fit}
use Rattle.calls.proofs.Calling.{set_done}
use Rattle.calls.proofs.Writes.{page_at, page_written}
use Rattle.calls.proofs.set.set.Goals as goal

pub returns : goal.returns
returns g c =
    let names = g.D.Register.names in
    let home = c.args.home.now in
    let p = c.args.page in
    let m = memory home c.args.cells.now (g.L.Links.view c.args.links.now) (view_of c.args.queues.now) in
    let fits = sym c.if-not-fits.ensures in
    let f = fit c.args.sizes m fits in
    let pages = f.home in
    let old = get_or home p c.index-home-page.result in
    let written : HomePageOver g.row.V.Denot g.row.D.Denot = record { value = c.args.value; state = old.state } in
    set_done names c.args.sizes m fits p c.args.value (set home p written) old c.if-page-sizes.false (length-set home p written)
    (λ v. page_at names v home p c.index-home-page.result (omega arith) c.index-home-page.is ∙ ap (page_meaning names) c.index-home-page.is)
    (λ v. page_written names v home p written (omega arith))
