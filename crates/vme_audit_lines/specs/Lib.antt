pub mod AuditLines
