-- A card without the memory that holds it.
use Rattle.job_text.specs.declared.card.Card.{Card}
use Rattle.job_text.specs.declared.card.Card.TheVariants as card
use Rattle.job_text.specs.Meaning.{CardView, Cover, Module, Text, Listing, Serve, Phase, Session, Task, Reg, Data, Input, End}

abbrev pub view : Card → CardView
view card.Cover = Cover
view (card.Module n b s) = Module n b s
view (card.Text v) = Text v.items
view (card.Listing n) = Listing n
view (card.Service s) = Serve s
view (card.Phase n) = Phase n
view (card.Session n by ns) = Session n by ns.items
view (card.Task n e p b r) = Task n e p b r
view (card.Reg r) = Reg r.number r.value
view (card.Data d) = Data d
view (card.Input v) = Input v.items
view card.End = End
