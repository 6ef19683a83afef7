-- The elements' names by type number from 0, 32 octets each, as TS 29.274 Table 8.1-1 has them: by its abbreviation where a name is over
-- 31 octets, and shortened where it has none. 201 has its number from the rules alone; 190 to 254 have none else. Assumes nothing.
use Rattle.std.specs.Prelude.{ℕ, zero, suc, ◌-◌, List, [], ◌∷◌, ◌++◌, length, replicate}
use Prim.Native.String.{String}
use Rattle.phrases.specs.Words.{words}

-- a name, and for how many numbers on end it stands
pub record Named : Type 0 where
  pub numbers : ℕ
  pub name : String

abbrev pub named : ℕ → String → Named
named n s = record { numbers = n; name = s }

-- with blanks at its end
unfoldable pub entry : List ℕ → List ℕ
entry name = name ++ replicate (32 - length name) 32

-- so many times, before the rest
unfoldable pub often : ℕ → List ℕ → List ℕ → List ℕ
often zero e rest = rest
often (suc n) e rest = e ++ often n e rest

unfoldable pub entries : List Named → List ℕ
entries [] = []
entries (x ∷ more) = often x.numbers (entry (words x.name)) (entries more)

unfoldable pub table : List Named
table =
    named 1 "Reserved"
    ∷ named 1 "IMSI"
    ∷ named 1 "Cause"
    ∷ named 1 "Recovery (Restart Counter)"
    ∷ named 31 "Reserved for S101 interface"
    ∷ named 16 "Reserved for S121 interface"
    ∷ named 1 "STN-SR"
    ∷ named 19 "Reserved for Sv interface"
    ∷ named 1 "Access Point Name (APN)"
    ∷ named 1 "AMBR"
    ∷ named 1 "EPS Bearer ID (EBI)"
    ∷ named 1 "IP Address"
    ∷ named 1 "Mobile Equipment Identity (MEI)"
    ∷ named 1 "MSISDN"
    ∷ named 1 "Indication"
    ∷ named 1 "PCO"
    ∷ named 1 "PDN Address Allocation (PAA)"
    ∷ named 1 "Bearer QoS"
    ∷ named 1 "Flow QoS"
    ∷ named 1 "RAT Type"
    ∷ named 1 "Serving Network"
    ∷ named 1 "Bearer TFT"
    ∷ named 1 "TAD"
    ∷ named 1 "User Location Information (ULI)"
    ∷ named 1 "F-TEID"
    ∷ named 1 "TMSI"
    ∷ named 1 "Global CN-Id"
    ∷ named 1 "S103PDF"
    ∷ named 1 "S1UDF"
    ∷ named 1 "Delay Value"
    ∷ named 1 "Bearer Context"
    ∷ named 1 "Charging ID"
    ∷ named 1 "Charging Characteristics"
    ∷ named 1 "Trace Information"
    ∷ named 1 "Bearer Flags"
    ∷ named 1 "Reserved"
    ∷ named 1 "PDN Type"
    ∷ named 1 "Procedure Transaction ID"
    ∷ named 2 "Reserved"
    ∷ named 6 "MM Context"
    ∷ named 1 "PDN Connection"
    ∷ named 1 "PDU Numbers"
    ∷ named 1 "P-TMSI"
    ∷ named 1 "P-TMSI Signature"
    ∷ named 1 "Hop Counter"
    ∷ named 1 "UE Time Zone"
    ∷ named 1 "Trace Reference"
    ∷ named 1 "Complete Request Message"
    ∷ named 1 "GUTI"
    ∷ named 1 "F-Container"
    ∷ named 1 "F-Cause"
    ∷ named 1 "PLMN ID"
    ∷ named 1 "Target Identification"
    ∷ named 1 "Reserved"
    ∷ named 1 "Packet Flow ID"
    ∷ named 1 "RAB Context"
    ∷ named 1 "Source RNC PDCP Context Info"
    ∷ named 1 "UDP Source Port Number"
    ∷ named 1 "APN Restriction"
    ∷ named 1 "Selection Mode"
    ∷ named 1 "Source Identification"
    ∷ named 1 "Reserved"
    ∷ named 1 "Change Reporting Action"
    ∷ named 1 "FQ-CSID"
    ∷ named 1 "Channel needed"
    ∷ named 1 "eMLPP Priority"
    ∷ named 1 "Node Type"
    ∷ named 1 "FQDN"
    ∷ named 1 "Transaction Identifier (TI)"
    ∷ named 1 "MBMS Session Duration"
    ∷ named 1 "MBMS Service Area"
    ∷ named 1 "MBMS Session Identifier"
    ∷ named 1 "MBMS Flow Identifier"
    ∷ named 1 "MBMS IP Multicast Distribution"
    ∷ named 1 "MBMS Distribution Acknowledge"
    ∷ named 1 "RFSP Index"
    ∷ named 1 "User CSG Information (UCI)"
    ∷ named 1 "CSG Info Reporting Action"
    ∷ named 1 "CSG ID"
    ∷ named 1 "CSG Membership Indication (CMI)"
    ∷ named 1 "Service indicator"
    ∷ named 1 "Detach Type"
    ∷ named 1 "Local Distinguished Name (LDN)"
    ∷ named 1 "Node Features"
    ∷ named 1 "MBMS Time to Data Transfer"
    ∷ named 1 "Throttling"
    ∷ named 1 "ARP"
    ∷ named 1 "EPC Timer"
    ∷ named 1 "Signalling Priority Indication"
    ∷ named 1 "TMGI"
    ∷ named 1 "Additional MM context for SRVCC"
    ∷ named 1 "Additional flags for SRVCC"
    ∷ named 1 "Reserved"
    ∷ named 1 "MDT Configuration"
    ∷ named 1 "APCO"
    ∷ named 1 "Abs. Time of MBMS Data Transfer"
    ∷ named 1 "H(e)NB Information Reporting"
    ∷ named 1 "IP4CP"
    ∷ named 1 "Change to Report Flags"
    ∷ named 1 "Action Indication"
    ∷ named 1 "TWAN Identifier"
    ∷ named 1 "ULI Timestamp"
    ∷ named 1 "MBMS Flags"
    ∷ named 1 "RAN/NAS Cause"
    ∷ named 1 "CN Operator Selection Entity"
    ∷ named 1 "Trusted WLAN Mode Indication"
    ∷ named 1 "Node Number"
    ∷ named 1 "Node Identifier"
    ∷ named 1 "Presence Reporting Area Action"
    ∷ named 1 "Presence Reporting Area Info"
    ∷ named 1 "TWAN Identifier Timestamp"
    ∷ named 1 "Overload Control Information"
    ∷ named 1 "Load Control Information"
    ∷ named 1 "Metric"
    ∷ named 1 "Sequence Number"
    ∷ named 1 "APN and Relative Capacity"
    ∷ named 1 "WLAN Offloadability Indication"
    ∷ named 1 "Paging and Service Information"
    ∷ named 1 "Integer Number"
    ∷ named 1 "Millisecond Time Stamp"
    ∷ named 1 "Monitoring Event Information"
    ∷ named 11 "not named"
    ∷ named 1 "Secondary RAT Usage Data Report"
    ∷ named 53 "not named"
    ∷ named 1 "Private Extension"
    ∷ []

abbrev pub names : List ℕ
names = entries table
