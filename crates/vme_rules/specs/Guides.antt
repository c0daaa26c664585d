-- The guide of each rule: what it asks, in words, and what is usually wrong where it is broken.
use Rattle.std.specs.Prelude.{ℕ, List, [], ◌∷◌, ◌++◌, Option, None, Some, codes, flat_map}
use Rattle.vme_trace.specs.Rules.{all_rules, rule_name}
use Rattle.vme_trace.specs.declared.rule.Rule.{Rule}
use Rattle.vme_trace.specs.declared.rule.Rule.TheVariants as rule

-- in which case a rule is broken
abbrev pub guide_sentence : Rule → List ℕ
guide_sentence rule.U1 = codes "a control line is Unknown, at the end of judging"
guide_sentence rule.U2 = codes "AS falls and a needed line of this cycle is Unknown"
guide_sentence rule.U3 = codes "a transfer starts and WRITE is Unknown"
guide_sentence rule.U4 =
    codes "a strobe falls in a write, no later than its answer, and a data line that the write moves is Unknown"
guide_sentence rule.H1 = codes "a transfer starts, and DTACK, or BERR, isn't High near"
guide_sentence rule.H2 = codes "a strobe rises inside a transfer, after its start, that has no answer so far"
guide_sentence rule.H3 = codes "a strobe falls inside a transfer, after its start and after its answer"
guide_sentence rule.H4 = codes "an answer line falls outside any transfer"
guide_sentence rule.H5 =
    codes "an answer line falls in a transfer after its answer, or both answer lines fall at the answer"
guide_sentence rule.H6 =
    codes "an answer line rises, and no strobe rose at any instant from that line's last fall on, both instants "
    ++ codes "included"
guide_sentence rule.H7 = codes "AS rises while a transfer that started before is open and has no answer so far"
guide_sentence rule.H8 = codes "a transfer is answered and AS isn't Low near"
guide_sentence rule.S1 =
    codes "a needed line has an edge after its cycle's start, before the cycle's end and before any transfer's answer "
    ++ codes "since the start"
guide_sentence rule.S2 = codes "WRITE has an edge after a transfer's start, before a strobe rises in it"
guide_sentence rule.S3 =
    codes "a data line that a write moves has an edge after its start, before its answer and before a strobe rises in "
    ++ codes "it"
guide_sentence rule.C1 =
    codes "a single cycle has a second answer and the two aren't a read, then a write; or a later answer"
guide_sentence rule.C2 = codes "the direction of an answered transfer of a block cycle differs from the cycle's first"
guide_sentence rule.G1 = codes "a slot's grant output falls and its input isn't Low near"
guide_sentence rule.G2 = codes "a slot's grant output rises and its input isn't High near"
guide_sentence rule.G3 = codes "two of BG0.0 to BG3.0 are Low, and one of these falls"
guide_sentence rule.G4 = codes "a grant net falls and BBSY isn't High near"
guide_sentence rule.G5 =
    codes "BGn.0 falls, and BRn is Low at no instant from the last fall of any BGx.0 before (or the start) on, both "
    ++ codes "included"
guide_sentence rule.B1 = codes "BBSY falls and no BGn.0 is Low near"
guide_sentence rule.B2 = codes "BBSY falls, and no BGn.0 fell after the previous fall of BBSY (or the start)"
guide_sentence rule.B3 = codes "AS falls and BBSY isn't Low near"
guide_sentence rule.B4 = codes "BBSY falls and the grant came past the last slot"
guide_sentence rule.I1 = codes "IA.k falls and the slot's input isn't Low near"
guide_sentence rule.I2 = codes "IA.k falls, and AS isn't Low near or neither strobe is Low near"
guide_sentence rule.I3 = codes "IA.k falls while AS stays Low, after a transfer of this cycle was answered by DTACK"
guide_sentence rule.I4 = codes "an interrupt acknowledge's transfer that is answered is a write"
guide_sentence rule.I5 = codes "an interrupt acknowledge has a second answer"

-- the line that a break of the rule names
abbrev pub guide_line : Rule → List ℕ
guide_line rule.U1 = codes "that control line"
guide_line rule.U2 = codes "the needed line"
guide_line rule.U3 = codes "WRITE"
guide_line rule.U4 = codes "the data line"
guide_line rule.H1 = codes "the answer line that isn't High"
guide_line rule.H2 = codes "the strobe that rises"
guide_line rule.H3 = codes "the strobe that falls"
guide_line rule.H4 = codes "the answer line that falls"
guide_line rule.H5 = codes "the answer line that falls"
guide_line rule.H6 = codes "the answer line that rises"
guide_line rule.H7 = codes "AS"
guide_line rule.H8 = codes "the answer line that falls"
guide_line rule.S1 = codes "the needed line"
guide_line rule.S2 = codes "WRITE"
guide_line rule.S3 = codes "the data line with the edge"
guide_line rule.C1 = codes "the answer line that falls"
guide_line rule.C2 = codes "the answer line that falls"
guide_line rule.G1 = codes "the net"
guide_line rule.G2 = codes "the net"
guide_line rule.G3 = codes "the net that falls"
guide_line rule.G4 = codes "the net"
guide_line rule.G5 = codes "the net that falls"
guide_line rule.B1 = codes "BBSY"
guide_line rule.B2 = codes "BBSY"
guide_line rule.B3 = codes "AS"
guide_line rule.B4 = codes "BBSY"
guide_line rule.I1 = codes "the net"
guide_line rule.I2 = codes "the net"
guide_line rule.I3 = codes "the net"
guide_line rule.I4 = codes "the answer line that falls"
guide_line rule.I5 = codes "the answer line that falls"

-- the chapter of ANSI/IEEE Std 1014-1987 that a rule comes from, and `profile` where it is a reading of this project
abbrev pub guide_section : Rule → List ℕ
guide_section rule.U1 = codes "profile"
guide_section rule.U2 = codes "chapter 2, Data Transfer Bus; profile"
guide_section rule.U3 = codes "chapter 2, Data Transfer Bus; profile"
guide_section rule.U4 = codes "chapter 2, Data Transfer Bus; profile"
guide_section rule.H1 = codes "chapter 2, Data Transfer Bus"
guide_section rule.H2 = codes "chapter 2, Data Transfer Bus"
guide_section rule.H3 = codes "chapter 2, Data Transfer Bus"
guide_section rule.H4 = codes "chapter 2, Data Transfer Bus"
guide_section rule.H5 = codes "chapter 2, Data Transfer Bus; profile"
guide_section rule.H6 = codes "chapter 2, Data Transfer Bus"
guide_section rule.H7 = codes "chapter 2, Data Transfer Bus"
guide_section rule.H8 = codes "chapter 2, Data Transfer Bus"
guide_section rule.S1 = codes "chapter 2, Data Transfer Bus"
guide_section rule.S2 = codes "chapter 2, Data Transfer Bus"
guide_section rule.S3 = codes "chapter 2, Data Transfer Bus"
guide_section rule.C1 = codes "chapter 2, Data Transfer Bus"
guide_section rule.C2 = codes "chapter 2, Data Transfer Bus"
guide_section rule.G1 = codes "chapter 3, Data Transfer Bus Arbitration"
guide_section rule.G2 = codes "chapter 3, Data Transfer Bus Arbitration"
guide_section rule.G3 = codes "chapter 3, Data Transfer Bus Arbitration"
guide_section rule.G4 = codes "chapter 3, Data Transfer Bus Arbitration"
guide_section rule.G5 = codes "chapter 3, Data Transfer Bus Arbitration"
guide_section rule.B1 = codes "chapter 3, Data Transfer Bus Arbitration"
guide_section rule.B2 = codes "chapter 3, Data Transfer Bus Arbitration"
guide_section rule.B3 = codes "chapter 2, Data Transfer Bus"
guide_section rule.B4 = codes "chapter 3, Data Transfer Bus Arbitration"
guide_section rule.I1 = codes "chapter 4, Priority Interrupt"
guide_section rule.I2 = codes "chapter 4, Priority Interrupt"
guide_section rule.I3 = codes "chapter 4, Priority Interrupt"
guide_section rule.I4 = codes "chapter 4, Priority Interrupt; profile"
guide_section rule.I5 = codes "chapter 4, Priority Interrupt; profile"

-- what is usually wrong on a board that breaks the rule
abbrev pub guide_causes : Rule → List ℕ
guide_causes rule.U1 =
    codes "two boards drive the line against each other; a net of a daisy chain that its board releases once the bus "
    ++ codes "was idle; a driver that becomes unknown where a state that isn't reset is used; $dumpoff"
guide_causes rule.U2 =
    codes "the master drives AS before its address, AM, LWORD or IACK; two masters drive the address at once; a needed "
    ++ codes "line that is bound to x"
guide_causes rule.U3 = codes "the master drives a strobe before WRITE; two masters drive WRITE at once"
guide_causes rule.U4 =
    codes "the master's data register isn't set before its strobes; two boards drive the data lines at once; a data "
    ++ codes "line that is bound to x"
guide_causes rule.H1 =
    codes "the master doesn't wait until the answer of its last transfer is gone; a slave or the bus timer that "
    ++ codes "releases its answer late, or never"
guide_causes rule.H2 =
    codes "the master releases its strobes by a clock or a timer of its own, and not by the answer; a glitch on a "
    ++ codes "strobe; a reset in the middle of a transfer, where SYSRESET is not bound"
guide_causes rule.H3 =
    codes "the master drives its two strobes too far apart; the second half of an access is strobed before the first "
    ++ codes "one is over; a glitch on a strobe"
guide_causes rule.H4 =
    codes "a slave that is too slow answers once the master has gone; the bus timer and a slow slave answer one after "
    ++ codes "the other; a slave that decodes the address without the strobes"
guide_causes rule.H5 =
    codes "two slaves decode the same address; the bus timer runs out while a slow slave answers; a glitch on an "
    ++ codes "answer line"
guide_causes rule.H6 =
    codes "the slave releases its answer by a clock or a timer of its own, and not by the strobes; two slaves answer "
    ++ codes "and the first releases its line"
guide_causes rule.H7 =
    codes "the master ends its cycle by a clock or a timer of its own, and not by the answer; a reset in the middle of "
    ++ codes "a cycle, where SYSRESET is not bound"
guide_causes rule.H8 =
    codes "a slave that decodes the address without AS; a master that drives its strobes without AS, or AS long after "
    ++ codes "them"
guide_causes rule.S1 =
    codes "the master lets the next address through, or turns its drivers off, by its own clock and not by the answer; "
    ++ codes "an address latch that is open while AS is Low; two masters drive at once"
guide_causes rule.S2 =
    codes "the master changes WRITE for its next access before the strobes are High; WRITE is released together with "
    ++ codes "the address, at the answer"
guide_causes rule.S3 =
    codes "the master drives its data after the strobe; the master lets its next data through before the answer; a "
    ++ codes "slave that drives the data lines in a write"
guide_causes rule.C1 =
    codes "a block transfer with the address modifier code of a single one; AS stays Low between two cycles; a "
    ++ codes "read-modify-write that writes first"
guide_causes rule.C2 =
    codes "a read-modify-write with the address modifier code of a block transfer; AS stays Low between a block of "
    ++ codes "reads and one of writes"
guide_causes rule.G1 =
    codes "a board drives its grant output without looking at its input; the grants of two levels, or of two slots, "
    ++ codes "are exchanged in the binding or on the backplane; a glitch"
guide_causes rule.G2 =
    codes "a board releases its grant output when its own request changes; a board that takes a grant that it has "
    ++ codes "passed on; a reset in the middle of a grant, where SYSRESET is not bound"
guide_causes rule.G3 =
    codes "an arbiter that grants a second level before it has taken the first grant back; two boards that are both "
    ++ codes "the system controller"
guide_causes rule.G4 =
    codes "an arbiter that grants while the bus is busy; a board that passes a grant on after another has taken it; "
    ++ codes "BBSY is driven late"
guide_causes rule.G5 =
    codes "an arbiter that grants without a request, or on the wrong level; a request line that wasn't recorded and is "
    ++ codes "bound to 1"
guide_causes rule.B1 =
    codes "a master that takes the bus without a grant, or after the arbiter took the grant back; a grant chain that "
    ++ codes "wasn't recorded and is bound to 1"
guide_causes rule.B2 =
    codes "a master that takes the bus again by a grant that was used; two requesters take one grant; a glitch on BBSY"
guide_causes rule.B3 =
    codes "a master that drives AS before it has the bus, or after it has released BBSY; BBSY wasn't recorded and is "
    ++ codes "bound to 1"
guide_causes rule.B4 =
    codes "the requester passes the grant on and takes the bus all the same; the binding has fewer slots than the "
    ++ codes "backplane"
guide_causes rule.I1 =
    codes "a board drives its acknowledge output without looking at its input; IACK isn't brought to slot 1's input; "
    ++ codes "slots are exchanged in the binding"
guide_causes rule.I2 =
    codes "a board passes its acknowledge input on at once, without waiting for AS and a strobe; a glitch on IACK "
    ++ codes "between two cycles"
guide_causes rule.I3 =
    codes "an interrupter that answers and passes the acknowledge on as well; its request and its acknowledge input "
    ++ codes "are compared in a race; another board answers for it"
guide_causes rule.I4 =
    codes "the interrupt handler leaves WRITE Low from the cycle before; WRITE is bound to 0, or to its inverse"
guide_causes rule.I5 =
    codes "the interrupt handler reads its vector in two transfers of one cycle; AS stays Low between two acknowledge "
    ++ codes "cycles"

-- a name, a colon and its value, on a line
abbrev pub guide_row : List ℕ → List ℕ → List ℕ
guide_row name value = name ++ codes ": " ++ value ++ 10 ∷ []

-- the four lines of a guide
abbrev pub guide_rows : List ℕ → List ℕ → List ℕ → List ℕ → List ℕ → List ℕ
guide_rows name sentence line section causes =
    guide_row name sentence ++ guide_row (codes "  line") line ++ guide_row (codes "  section") section
    ++ guide_row (codes "  usually") causes

-- the guide of a rule
unfoldable pub guide_text : Rule → List ℕ
guide_text r = guide_rows (rule_name r) (guide_sentence r) (guide_line r) (guide_section r) (guide_causes r)

-- the guide of one rule, or those of all rules, in their order
abbrev pub guides_text : Option Rule → List ℕ
guides_text (Some r) = guide_text r
guides_text None = flat_map guide_text all_rules
